-- The sum over the endpoints that rows of marks pick. Inner: nothing here is promised. Assumes nothing.
use Rattle.std.specs.Prelude.{Bool, not, ◌&&◌, List, [], map, ◌≡◌, ℕ, suc, ◌≤◌, length, get_or}
use Rattle.lists.specs.Lists.{range, on, sum, any}
use Rattle.rows.specs.Rows.{marked, Meet}
use Rattle.picture.specs.Layout.{endpoints_max, weight_max}
use Rattle.weigh.specs.declared.Lost.{Lost}

-- a row has a mark in common with one row and none with another
pub record LostRow (row before after : List ℕ) (lost : Bool) : Type 0 where
  pub same : (f g : Bool) → Meet (marked row) (marked before) f → Meet (marked row) (marked after) g → lost ≡ (f && not g)

-- f says of each row of a table whether it has a mark in common with a row
pub record Meets (table : List (List ℕ)) (row : List ℕ) (f : ℕ → Bool) : Type 0 where
  pub meet : (c : ℕ) → Meet (marked (get_or table c [])) (marked row) (f c)

-- the sum of w over the endpoints 1 to d that the first test picks and the second does not
unfoldable pub sum_between : (ℕ → ℕ) → ℕ → (ℕ → Bool) → (ℕ → Bool) → ℕ
sum_between w d f g = sum (map (λ c. on (f c && not (g c)) (w c)) (range 1 d))

-- 1 if one of them is protected, else 0
unfoldable pub mark_between : List ℕ → ℕ → (ℕ → Bool) → (ℕ → Bool) → ℕ
mark_between guarded d f g = on (any (λ c. marked guarded c && (f c && not (g c))) (range 1 d)) 1

-- what the locations of one row serve and those of another do not: the table has a row of serving locations for each endpoint
pub record LostBetween (table : List (List ℕ)) (weights guarded : List ℕ) (d : ℕ) (before after : List ℕ) (lost : Lost) : Type 0 where
  pub weighs : (f g : ℕ → Bool) → Meets table before f → Meets table after g → lost.weight ≡ sum_between (λ c. get_or weights c 0) d f g
  pub counts : (f g : ℕ → Bool) → Meets table before f → Meets table after g → lost.count ≡ sum_between (λ _. 1) d f g
  pub marks : (f g : ℕ → Bool) → Meets table before f → Meets table after g → lost.mark ≡ mark_between guarded d f g

-- no weight is above the limit
pub record Small (weights : List ℕ) : Type 0 where
  pub many : length weights ≡ suc endpoints_max
  pub weight : (c : ℕ) → get_or weights c 0 ≤ weight_max
