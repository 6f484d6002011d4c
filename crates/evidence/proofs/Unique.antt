-- What a right verdict names, and all evidence that passes for a picture has the same verdict and the same loss, and names blocks that cut
-- equally many endpoints. Assumes nothing.
use mathlib.Core.Path.{◌≡◌, refl}
use mathlib.Core.Logic.{◌≢◌}
use mathlib.Core.List.{List}
use Prim.Native.Nat.{ℕ}
use native.Mathlib.Omega.{arith}
use Rattle.lists.proofs.Sums.{total_one}
use Rattle.picture.specs.Picture.{Picture, picture_of}
use Rattle.network.specs.Words.{CutCount}
use Rattle.evidence.specs.Contents.{head_in}
use Rattle.evidence.specs.Rules.{LeastAdmissible, Verdict, chosen, none}
use Rattle.evidence.proofs.Passing.{Passes}

-- it names a candidate, or none
pub verdict_named : {p : Picture} {v b l : ℕ} → Verdict p v b l → v ≢ 0 → LeastAdmissible p b l
verdict_named (chosen n) _ = n
verdict_named (none k) m = absurd (m refl)

-- the block may be another one of the least
pub verdict_one : {p : Picture} {v b l v' b' l' : ℕ} → Verdict p v b l → Verdict p v' b' l' → (v ≡ v') × (l ≡ l')
verdict_one (chosen {block = b} {loss = l} s) (chosen {block = c} {loss = m} t) =
    (refl, omega (arith, s.least c t.candidate t.admissible m t.stated, t.least b s.candidate s.admissible l s.stated))
verdict_one (chosen {block = b} s) (none k) = absurd (s.admissible (k b s.candidate))
verdict_one (none k) (chosen {block = b} s) = absurd (s.admissible (k b s.candidate))
verdict_one (none k) (none j) = (refl, refl)

cuts_one : {p : Picture} {v b l v' b' l' : ℕ} → Verdict p v b l → Verdict p v' b' l' → {k k' : ℕ} → CutCount p b k → CutCount p b' k' → k ≡ k'
cuts_one (chosen {block = b} {loss = l} s) (chosen {block = c} {loss = m} t) x y =
    let e = (verdict_one (chosen s) (chosen t)).1 in
    omega (
      arith,
      s.fewest c t.candidate t.admissible (rw e t.stated) _ y,
      t.fewest b s.candidate s.admissible (rw (← e) s.stated) _ x,
      total_one x s.counted,
      total_one y t.counted,
    )
cuts_one (chosen {block = b} s) (none k) x y = absurd (s.admissible (k b s.candidate))
cuts_one (none k) (chosen {block = b} s) x y = absurd (s.admissible (k b s.candidate))
cuts_one (none k) (none j) x y = total_one x y

pub same_cuts : {bs ev ev' : List ℕ} → Passes bs ev → Passes bs ev' → {k k' : ℕ} → CutCount (picture_of bs) (head_in ev).block k → CutCount (picture_of bs) (head_in ev').block k' → k ≡ k'
same_cuts a b = cuts_one a.verdict b.verdict

pub same_verdict : {bs ev ev' : List ℕ} → Passes bs ev → Passes bs ev' → ((head_in ev).verdict ≡ (head_in ev').verdict) × ((head_in ev).loss ≡ (head_in ev').loss)
same_verdict a b = verdict_one a.verdict b.verdict
