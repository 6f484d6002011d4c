-- Rules that are judged in order: the number that is answered is that of the first rule that is broken. Assumes nothing.
use Rattle.std.specs.Prelude.{List, [], ◌∷◌, ◌++◌, ℕ, zero}

-- a rule, and the number of the refusal where it is broken
pub record Rule : Type 1 where
  pub number : ℕ
  pub holds : Type 0

-- the rules of each element of a list, one element after another
unfoldable pub each_rules : {A : Type 0} → (A → List Rule) → List A → List Rule
each_rules r [] = []
each_rules r (x ∷ xs) = r x ++ each_rules r xs

-- the number of the first rule that is broken, or 0 where every rule holds
pub data Judged : List Rule → ℕ → Type 1 where
  kept : Judged [] zero
  broken : {r : Rule} {rs : List Rule} → ¬ r.holds → Judged (r ∷ rs) r.number
  passed : {r : Rule} {rs : List Rule} {k : ℕ} → r.holds → Judged rs k → Judged (r ∷ rs) k

-- every rule holds
pub data AllHold : List Rule → Type 1 where
  none : AllHold []
  more : {r : Rule} {rs : List Rule} → r.holds → AllHold rs → AllHold (r ∷ rs)
