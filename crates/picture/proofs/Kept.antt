-- What accepted bytes keep, rule by rule: the list of rules as a record with a name for each. Assumes nothing.
use mathlib.Core.Path.{◌≡◌}
use mathlib.Core.List.{List, ◌++◌}
use Prim.Native.Nat.{ℕ, ◌≤◌, ◌<◌}
use lib.ListN.{length, get_or}
use Rattle.lists.specs.Rules.{Rule, each_rules, AllHold, more, none}
use Rattle.lists.proofs.Rules.{hold_one, hold_left, hold_right, hold_both, hold_each, each_hold}
use Rattle.picture.specs.declared.Link.{Link}
use Rattle.picture.specs.Layout.{edition_of, edition_number, least_bytes, header_bytes, size_of}
use Rattle.picture.specs.Picture.{Picture, header_in, header_of, picture_of}
use Rattle.picture.specs.Rules.{Sizes, Counts, States, no_link, Links, service_link_rules, Ends, list_rules, rules_with, rules}

-- what the service links keep: the rules of each, by name
pub record ServiceLinks (n d : ℕ) (p : Picture) : Type 0 where
  pub location : (i : ℕ) → i < length p.service_links → (get_or p.service_links i no_link).from ≤ n
  pub endpoint_some : (i : ℕ) → i < length p.service_links → 1 ≤ (get_or p.service_links i no_link).to
  pub endpoint_most : (i : ℕ) → i < length p.service_links → (get_or p.service_links i no_link).to ≤ d

-- the same as their rules, with other rules behind them
module _ (n d : ℕ) (p : Picture) (rs : List Rule) where
  abbrev service_rules : List Rule
  service_rules = each_rules (service_link_rules n d) p.service_links

  pub holds_services : AllHold (service_rules ++ rs) → ServiceLinks n d p × AllHold rs
  unfolding service_link_rules
  holds_services a = (
    let at = hold_each (service_link_rules n d) no_link p.service_links (hold_left service_rules rs a) in
        record { location = λ i h. location (at i h); endpoint_some = λ i h. (endpoint (at i h)).0; endpoint_most = λ i h. (endpoint (at i h)).1 },
    hold_right service_rules rs a,
  )
    where
      location : {l : Link} → AllHold (service_link_rules n d l) → l.from ≤ n
      location (more f _) = f

      endpoint : {l : Link} → AllHold (service_link_rules n d l) → (1 ≤ l.to) × (l.to ≤ d)
      endpoint (more _ (more t none)) = t

  pub services_hold : ServiceLinks n d p → AllHold rs → AllHold (service_rules ++ rs)
  unfolding service_link_rules
  services_hold s =
      hold_both
      (each_hold (service_link_rules n d) no_link p.service_links (λ i h. more (s.location i h) (more (s.endpoint_some i h, s.endpoint_most i h) none)))

-- the rules in their order
pub record Kept (bs : List ℕ) : Type 0 where
  pub header : least_bytes ≤ length bs
  pub edition : edition_number bs ≡ (edition_of bs).number
  pub whole : header_bytes (edition_of bs) ≤ length bs
  pub sizes : Sizes (header_of bs)
  pub counts : Counts (header_of bs)
  pub long : size_of (header_of bs) ≤ length bs
  pub states : States (header_of bs).slots (picture_of bs)
  pub links : Links (header_of bs).slots (picture_of bs)
  pub service_links : ServiceLinks (header_of bs).slots (header_of bs).endpoints (picture_of bs)
  pub ends : Ends (header_of bs) bs

pub holds_kept : (bs : List ℕ) → AllHold (rules bs) → Kept bs
unfolding rules rules_with list_rules header_of header_in
holds_kept bs (more a (more b (more w (more c (more d (more e (more f (more g r)))))))) =
    let s = holds_services _ _ (picture_of bs) _ r in
    record { header = a; edition = b; whole = w; sizes = c; counts = d; long = e; states = f; links = g; service_links = s.0; ends = hold_one s.1 }

pub kept_holds : {bs : List ℕ} → Kept bs → AllHold (rules bs)
unfolding rules rules_with list_rules header_of header_in
kept_holds k =
    more k.header (more k.edition (more k.whole (more k.sizes (more k.counts (more k.long (more k.states (more k.links
    (services_hold _ _ _ _ k.service_links (more k.ends none)))))))))
