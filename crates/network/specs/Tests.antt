-- The same by computation: what the examples compute with and the code is held to. The laws show each equal to its meaning by chains.
-- Assumes nothing.
use Rattle.std.specs.Prelude.{Bool, false, not, ◌&&◌, List, map, ℕ, eqb, get_or}
use Rattle.lists.specs.Lists.{range, on, sum, any, filter}
use Rattle.graph.specs.Rounds.{reached_in}
use Rattle.picture.specs.Picture.{Picture, slot_of, endpoint_of}
use Rattle.network.specs.declared.Cost.{Cost}
use Rattle.network.specs.Words.{slot_count, endpoint_count, block_count, in_block, is_held, held_without, joins, weight_of}

-- the marks of the locations that are reached
unfoldable pub marks : Picture → (ℕ → Bool) → List Bool
marks p held = reached_in (joins p.links) held (slot_count p)

-- an endpoint is served, by the marks of what is reached
unfoldable pub served : Picture → List Bool → ℕ → Bool
served p t c = any (λ l. get_or t l.from false && eqb l.to c) p.service_links

-- it is served by the first marks and not by the second
unfoldable pub cut : Picture → List Bool → List Bool → ℕ → Bool
cut p now without c = served p now c && not (served p without c)

-- some protected endpoint is
unfoldable pub cut_protected : Picture → List Bool → List Bool → Bool
cut_protected p now without = any (λ c. (endpoint_of p c).protected && cut p now without c) (range 1 (endpoint_count p))

-- the sum of w over the endpoints that a test picks, each once
unfoldable pub sum_where : Picture → (ℕ → ℕ) → (ℕ → Bool) → ℕ
sum_where p w f = sum (map (λ c. on (f c) (w c)) (range 1 (endpoint_count p)))

-- the served weight
unfoldable pub served_weight : Picture → ℕ
served_weight p = let now : List Bool = marks p (is_held p) in sum_where p (weight_of p) (served p now)

-- what weighing a block gives: its loss, how many endpoints it cuts, and its mark (1 if it cuts a protected one, else 0)
unfoldable pub weighed : Picture → ℕ → Cost
weighed p b =
    let now : List Bool = marks p (is_held p) in
    let without : List Bool = marks p (held_without p b) in
    record {
      block = b;
      loss = sum_where p (weight_of p) (cut p now without);
      cuts = sum_where p (λ _. 1) (cut p now without);
      mark = on (cut_protected p now without) 1;
    }

-- a slot is held and near
unfoldable pub is_near_held : Picture → ℕ → Bool
is_near_held p v = is_held p v && (slot_of p v).near

-- a block has at least one held near slot
unfoldable pub is_candidate : Picture → ℕ → Bool
is_candidate p b = any (λ v. in_block p b v && is_near_held p v) (range 1 (slot_count p))

-- the candidates in rising order
unfoldable pub candidates : Picture → List ℕ
candidates p = filter (is_candidate p) (range 0 (block_count p))
