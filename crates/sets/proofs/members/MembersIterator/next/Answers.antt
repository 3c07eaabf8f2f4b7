-- `next` meets its contract: the lowest member is below 32, and with it taken off a set has fewer.
use Prim.Native.Nat.{ℕ, ◌^◌, ◌<◌}
use mathlib.Core.Path.{sym, subst}
use Rattle.std.proofs.Common.{rules}
use Rattle.sets.specs.Member.{member, count_of}
use Rattle.sets.proofs.Walk.{left_first, left_fewer, next_below}
use Rattle.sets.proofs.members.MembersIterator.next.Goals as goal

pub returns-clause-goes : goal.returns-clause-goes
returns-clause-goes c =
    let left = c.args.self.now.left in
    let small : left < 2 ^ 32 = search rules in
    let fewer : count_of 32 (member c.remove-self.result) < count_of 32 (member left) =
    subst (λ (w : ℕ). count_of 32 (member w) < count_of 32 (member left)) (sym c.remove-self.ensures)
    (left_fewer left left _ (left_first left small) c.if-self-eq0.false c.lowest-s.ensures) in
    record { on = λ f. (tt, tt, fewer); keeps = tt; rests = λ f. tt }

pub returns-clause-steps : goal.returns-clause-steps
returns-clause-steps c =
    let left = c.args.self.now.left in
    let small : left < 2 ^ 32 = search rules in (
      next_below left left _ (left_first left small) c.if-self-eq0.false c.lowest-s.ensures,
      c.if-self-eq0.false,
      c.lowest-s.ensures,
      c.remove-self.ensures,
    )
