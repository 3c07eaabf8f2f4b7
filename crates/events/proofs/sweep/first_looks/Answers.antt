-- `first_looks` meets its contract: all bits of all words, or the readers of the steps that have changed.
use Prim.Native.Nat.{ℕ, ◌<◌}
use native.Mathlib.Omega.{arith}
use mathlib.Core.Path.{◌≡◌, ap, ◌∙◌}
use mathlib.Core.Bool.{true}
use borrow.Author.Tests.{lt-ltb}
use lib.ListN.{length, get_or, replicate, get_or-replicate}
use Rattle.std.proofs.Common.{rules}
use Rattle.sets.specs.Member.{member}
use Rattle.sets.proofs.Laws.{member-ones}
use Rattle.events.proofs.SettingFacts.{all_words}
use Rattle.events.proofs.sweep.first_looks.Goals as goal

-- all bits of all words
all_bits : (n k s : ℕ) → k < n → s < 32 → member (get_or (replicate n 4294967295) k 0) s ≡ true
all_bits n k s h l =
    ap (λ (w : ℕ). member w s) (get_or-replicate {A = ℕ} n k 4294967295 0 h) ∙ member-ones 32 s ∙ lt-ltb s 32 l

pub mark_steps-requires : goal.mark_steps-requires
mark_steps-requires c = record { room = omega (arith, c.requires, c.fill-in-Some.auto.self, all_words c.args.net.now) }

pub returns-in-None-clause-first : goal.returns-in-None-clause-first
returns-in-None-clause-first c =
    let filled : c.fill.new.self ≡ replicate (length c.args.looks.now) 4294967295 = search rules in
    rw (c.in-None.is, filled)
    (λ k s h. all_bits (length c.args.looks.now) k s (omega (arith, h, c.requires, all_words c.args.net.now)))
