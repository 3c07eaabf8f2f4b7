-- Clearing the front of a buffer.
use Prim.Native.Nat.{ℕ, ◌≤◌}
use mathlib.Core.Path.{◌≡◌, sym, ap, subst, ◌∙◌}
use mathlib.Core.List.{List, ◌++◌}
use native.Mathlib.Omega.{arith}
use lib.ListN.{length, take, drop, replicate, length-replicate, length-append}
use lib.Seq.{take_all, drop_at, length-take-le}
use Rattle.table.specs.Buffer.{Written}
use Rattle.table.proofs.Buffer.{over-written}
use Rattle.repair.specs.Effect.{cleared}

-- the front of a buffer, filled with 0
pub front_filled : (k v : ℕ) (buffer filled : List ℕ) → k ≡ v → v ≤ length buffer
    → filled ≡ replicate (length (take k buffer)) 0 → filled ++ drop k buffer ≡ cleared v buffer
front_filled k v buffer filled e h f =
    let size : length (take k buffer) ≡ v = length-take-le k buffer (omega (arith, h)) ∙ e in
    let zeros : filled ≡ take v (replicate v 0) = f ∙ ap (λ (n : ℕ). replicate n 0) size
    ∙ sym (take_all v (replicate v 0) (omega (arith, length-replicate {A = ℕ} v 0))) in
    (λ i. zeros i ++ drop (e i) buffer)

-- and where the front was lent before, and came back as `part`
pub lent_filled : (k v : ℕ) (buffer part filled : List ℕ) → k ≡ v → v ≤ length buffer
    → length part ≡ length (take k buffer)
    → filled ≡ replicate (length (take k (part ++ drop k buffer))) 0
    → filled ++ drop k (part ++ drop k buffer) ≡ cleared v buffer
lent_filled k v buffer part filled e h same f =
    let size : length part ≡ v = same ∙ length-take-le k buffer (omega (arith, h)) ∙ e in
    let long : v ≤ length (part ++ drop k buffer) = omega (arith, length-append part (drop k buffer), size) in
    front_filled k v (part ++ drop k buffer) filled e long f
    ∙ ap (λ (rest : List ℕ). take v (replicate v 0) ++ rest)
    (drop_at part (drop k buffer) v size ∙ ap (λ (n : ℕ). drop n buffer) e)

-- the first k entries are 0, and the rest is as it was
pub cleared-written : (k : ℕ) (buffer : List ℕ) → k ≤ length buffer → Written (replicate k 0) buffer (cleared k buffer)
cleared-written k buffer h =
    let zeros = replicate {A = ℕ} k 0 in
    let size = length-replicate {A = ℕ} k 0 in
    subst (λ (front : List ℕ). Written front buffer (cleared k buffer)) (take_all k zeros (omega (arith, size)))
    (over-written k zeros buffer (omega (arith, size)) h)
