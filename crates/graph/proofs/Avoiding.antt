-- A walk that goes over no link into a range is one through the held slots outside it. Assumes nothing.
use mathlib.Core.Bool.{Bool}
use mathlib.Core.List.{List}
use Prim.Native.Nat.{ℕ}
use Rattle.rows.specs.declared.Range.{Range}
use Rattle.rows.specs.Ranges.{without, avoiding}
use Rattle.rows.proofs.Ranges.{without_both, both_without}
use Rattle.graph.specs.Chains.{Chain, Reached, Fewest, Lowest, Entry}
use Rattle.graph.specs.Chains.Chain.{origin, step}
use Rattle.graph.specs.Chains.Entry.{unreached, reached}
use Rattle.graph.specs.Steps.{Walked}

-- chains over links that do not lead into a range are those through held slots outside it

module _ {linked : ℕ → ℕ → Bool} {held : ℕ → Bool} (r : Range) where
  chain_to : {k v : ℕ} → Chain (avoiding r linked) held k v → Chain linked (without r held) k v
  chain_to origin = origin
  chain_to (step {a = a} {b = b} c l h) = let s = without_both r (linked a) b l in step (chain_to c) s.0 (both_without r held b h s.1)

  chain_back : {k v : ℕ} → Chain linked (without r held) k v → Chain (avoiding r linked) held k v
  chain_back origin = origin
  chain_back (step {a = a} {b = b} c l h) = let s = without_both r held b h in step (chain_back c) (both_without r (linked a) b l s.1) s.0

  reached_to : {v : ℕ} → Reached (avoiding r linked) held v → Reached linked (without r held) v
  reached_to x = record { links = x.links; chain = chain_to x.chain }

  reached_back : {v : ℕ} → Reached linked (without r held) v → Reached (avoiding r linked) held v
  reached_back x = record { links = x.links; chain = chain_back x.chain }

  fewest_to : {v k : ℕ} → Fewest (avoiding r linked) held v k → Fewest linked (without r held) v k
  fewest_to f = record { chain = chain_to f.chain; fewest = λ j c. f.fewest j (chain_back c) }

  fewest_back : {v k : ℕ} → Fewest linked (without r held) v k → Fewest (avoiding r linked) held v k
  fewest_back f = record { chain = chain_back f.chain; fewest = λ j c. f.fewest j (chain_to c) }

  lowest_to : {v k p : ℕ} → Lowest (avoiding r linked) held v k p → Lowest linked (without r held) v k p
  lowest_to {v} {k} {p} l =
      let s = without_both r (linked p) v l.link in
      record { depth = fewest_to l.depth; link = s.0; lowest = λ u f m. l.lowest u (fewest_back f) (both_without r (linked u) v m s.1) }

  entry_to : {v p k : ℕ} → Entry (avoiding r linked) held v p k → Entry linked (without r held) v p k
  entry_to (unreached n) = unreached (λ x. n (reached_back x))
  entry_to (reached f l) = reached (fewest_to f) (lowest_to l)

  -- so is what a walk over them gives: the same locations, the same fewest links and the same lowest parents
  pub walked_without : {reaches : ℕ → Bool} {parent depth : List ℕ} → Walked (avoiding r linked) held reaches parent depth → Walked linked (without r held) reaches parent depth
  walked_without w =
      record {
        entry = λ v l. entry_to (w.entry v l);
        parent_origin = w.parent_origin;
        depth_origin = w.depth_origin;
        marks_reached = λ v t. reached_to (w.marks_reached v t);
        reached_marks = λ v x. w.reached_marks v (reached_back x);
      }
