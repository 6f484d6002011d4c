-- Flat networks, feeders, and what the counters are, by chains. 02, C-16. Assumes nothing.
use Rattle.std.specs.Prelude.{List, ◌≡◌, ℕ, ◌≤◌, ◌<◌, ◌^◌, T, length, get_or}
use Rattle.lists.specs.Lists.{sum}
use Rattle.lists.specs.Totals.{Total}
use Rattle.graph.specs.Chains.{Reached}
use Rattle.picture.specs.Picture.{Picture}
use Rattle.picture.specs.Layout.{blocks_max}
use Rattle.network.specs.Words.{block_count, in_block, is_held, joins, Cuts, Sum}
use Rattle.price.specs.declared.Record.{Record}
use Rattle.price.specs.Traffic.{no_record, traffic}

-- "every link starts at the office": the network is flat, and its chains have at most one link
pub record Flat (p : Picture) : Type 0 where
  pub start : (a b : ℕ) → T (joins p.links a b) → a ≡ 0

-- block b is a feeder of endpoint c: "the blocks with a reached slot serving it"
pub record Feeds (p : Picture) (b c : ℕ) : Type 0 where
  pub slot : ℕ
  pub inside : T (in_block p b slot)
  pub reached : Reached (joins p.links) (is_held p) slot
  pub serves : T (joins p.service_links slot c)

-- c has "exactly one feeder", b, "and no serving link from the office"
pub record OnlyFeeder (p : Picture) (b c : ℕ) : Type 0 where
  pub feeds : Feeds p b c
  pub only : (a : ℕ) → Feeds p a c → a ≡ b
  pub origin : ¬ T (joins p.service_links 0 c)

-- some block is: a record of c is added
pub record Added (p : Picture) (c : ℕ) : Type 0 where
  pub block : ℕ
  pub feeder : OnlyFeeder p block c

-- s is the weight of the records of whose endpoint P holds
abbrev pub WeightOf : List Record → (ℕ → Type 0) → ℕ → Type 0
WeightOf rs P s = Total (λ i. P (get_or rs i no_record).endpoint) (λ i. (get_or rs i no_record).weight) 0 (length rs) s

-- what the counters of a flat network's blocks are
pub record Priced (p : Picture) (rs : List Record) (cs : List ℕ) : Type 0 where
  -- "sixty counters"
  pub many : length cs ≡ blocks_max
  -- "a record with exactly one feeder and no serving link from the office adds its weight to that block"
  pub records : (b : ℕ) → WeightOf rs (OnlyFeeder p b) (get_or cs b 0)
  -- "each counter equals the loss by 01's definition when a cab weighs the sum of its records"
  pub loss : (b : ℕ) → Sum p (traffic rs) (Cuts p b) (get_or cs b 0)
  -- "the counters together equal the weight of the records that were added"
  pub together : WeightOf rs (Added p) (sum cs)
  -- "0 past the last block"
  pub past : (b : ℕ) → block_count p ≤ b → get_or cs b 0 ≡ 0
  -- "of 32 bits", even all of them together
  pub fits : sum cs < 2 ^ 32
