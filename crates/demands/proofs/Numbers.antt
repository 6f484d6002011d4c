-- Whatever a call answers by the number of the first fault tells that number, since each fault has the number of a refusal. Assumes nothing.
use mathlib.Core.Path.{◌≡◌, refl, sym, ap, ◌∙◌}
use mathlib.Core.Bool.{Bool, true, false}
use mathlib.Core.List.{List, [], ◌∷◌, map}
use lib.ListN.{get_or}
use Prim.Native.Nat.{ℕ, zero, suc, ◌-◌, ◌≤◌}
use native.Mathlib.Omega.{arith}
use Rattle.lists.specs.Lists.{on, first, outcome, range}
use Rattle.lists.proofs.Picks.{map_at, get_d_range}
use Rattle.picture.specs.declared.refusals.Refusal.TheVariants.{Short}
use Rattle.picture.specs.Refusals.{answer_of, answer_numbers, refusal_of, refusal_number, refusals}
use Rattle.picture.specs.declared.Edition.{Edition}
use Rattle.picture.specs.declared.Header.{Header}
use Rattle.picture.specs.declared.Link.{Link}
use Rattle.picture.specs.Layout.{size_of}
use Rattle.picture.specs.Picture.{Picture, header_of, picture_of}
use Rattle.picture.specs.Faults.{state_fault, link_fault, service_link_fault, list_faults, body_faults, faults_with, picture_fault}
use Rattle.picture.specs.Answers.{reading, reading_numbers, header_values}
use Rattle.weigh.specs.Weighing.{block_fault, weigh_fault, weights_of, weighing, weight_values, weighing_numbers}
use Rattle.network.specs.declared.Cost.{Cost}
use Rattle.evidence.specs.Checks.{section_fault, check_fault}
use Rattle.evidence.specs.Calls.{length_for, choose_fault}
use Rattle.choose.specs.Answers.{choosing, choosing_numbers}
use Rattle.checker.specs.Answers.{checking, checking_numbers}
use Rattle.acts.specs.declared.Act.{Act}
use Rattle.acts.specs.declared.Act.TheVariants.{Evict, Reload, Free}
use Rattle.acts.specs.Faults.{cut_fault, near_fault, act_fault}
use Rattle.acts.specs.Answers.{acting, acting_numbers}
use Rattle.write.specs.Columns.{Lists}
use Rattle.write.specs.Rules.{size_for}
use Rattle.write.specs.Faults.{handed_faults, write_fault}
use Rattle.write.specs.Answers.{writing, writing_numbers}
use Rattle.generator.specs.Faults.{asked_faults, generate_fault}
use Rattle.generator.specs.Answers.{generating}
use Rattle.price.specs.declared.Record.{Record}
use Rattle.price.specs.Traffic.{records_of}
use Rattle.price.specs.Faults.{link_start_fault, flat_fault, length_fault, record_fault, records_fault, price_fault}
use Rattle.price.specs.Answers.{counters, pricing, pricing_numbers}

-- a number is 0 or a refusal's
last : ℕ
last = 21

none_known : first [] ≤ last
unfolding first last
none_known = omega arith

-- the first of these is, if each of them is
next_known : {k : ℕ} (l : List ℕ) → k ≤ last → first l ≤ last → first (k ∷ l) ≤ last
unfolding first
next_known {k = zero} l m n = n
next_known {k = suc k} l m n = m

on_known : (t : Bool) {k : ℕ} → k ≤ last → on t k ≤ last
unfolding on last
on_known true l = l
on_known false l = omega arith

map_known : {A : Type 0} (f : A → ℕ) (l : List A) → ((x : A) → f x ≤ last) → first (map f l) ≤ last
map_known f [] n = none_known
map_known f (x ∷ l) n = next_known _ (n x) (map_known f l n)

-- ---- the number that is told

-- the refusals stand in the order of their numbers, so that of a number from 1 on has it
ordered : map refusal_number refusals ≡ range 1 last
unfolding last range
ordered = refl

number_back : (k : ℕ) → 1 ≤ k → k ≤ last → refusal_number (refusal_of k) ≡ k
unfolding refusal_of last
number_back k m n =
    sym (map_at refusal_number 0 Short refusals (k - 1) (omega (arith, m, n))) ∙ ap (λ (xs : List ℕ). get_or xs (k - 1) 0) ordered
    ∙ get_d_range 0 1 last (k - 1) (omega (arith, m, n)) ∙ omega (arith, m)

numbers_told : {A : Type 0} (values : A → List ℕ) (v : A) (k : ℕ) → k ≤ last → answer_numbers values (answer_of k v) ≡ outcome k (values v)
unfolding answer_of answer_numbers outcome
numbers_told values v zero l = refl
numbers_told values v (suc k) l = ap (λ (j : ℕ). j ∷ []) (number_back (suc k) (omega arith) l)

-- ---- the faults of each call

state_known : (k : ℕ) → state_fault k ≤ last
unfolding state_fault last
state_known k = on_known _ (omega arith)

link_known : (n : ℕ) (l : Link) → link_fault n l ≤ last
unfolding link_fault last
link_known n l = on_known _ (omega arith)

service_link_known : (n d : ℕ) (l : Link) → service_link_fault n d l ≤ last
unfolding service_link_fault last
service_link_known n d l = next_known _ (on_known _ (omega arith)) (next_known _ (on_known _ (omega arith)) none_known)

body_known : (h : Header) (p : Picture) (bs : List ℕ) → first (body_faults h p bs) ≤ last
unfolding body_faults list_faults last
body_known h p bs =
    next_known _ (map_known _ p.slots (λ s. state_known s.state))
    (next_known _ (map_known _ p.links (link_known h.slots))
    (next_known _ (map_known _ p.service_links (service_link_known h.slots h.endpoints)) (next_known _ (on_known _ (omega arith)) none_known)))

picture_known : (bs : List ℕ) → picture_fault bs ≤ last
unfolding picture_fault faults_with last
picture_known bs =
    next_known _ (on_known _ (omega arith))
    (next_known _ (on_known _ (omega arith))
    (next_known _ (on_known _ (omega arith))
    (next_known _ (on_known _ (omega arith))
    (next_known _ (on_known _ (omega arith)) (next_known _ (on_known _ (omega arith)) (body_known _ _ bs))))))

block_known : (p : Picture) (b : ℕ) → block_fault p b ≤ last
unfolding block_fault last
block_known p b = on_known _ (omega arith)

weigh_known : (bs : List ℕ) (b : ℕ) → weigh_fault bs b ≤ last
unfolding weigh_fault
weigh_known bs b = next_known _ (picture_known bs) (next_known _ (block_known _ b) none_known)

choose_known : (bs buf : List ℕ) → choose_fault bs buf ≤ last
unfolding choose_fault last
choose_known bs buf = next_known _ (picture_known bs) (next_known _ (on_known _ (omega arith)) none_known)

section_known : (e : Edition) (p : Picture) (ev : List ℕ) (ws : List Cost) (i : ℕ) → section_fault e p ev ws i ≤ last
unfolding section_fault last
section_known e p ev ws i = next_known _ (on_known _ (omega arith)) (next_known _ (on_known _ (omega arith)) none_known)

check_known : (bs ev : List ℕ) → check_fault bs ev ≤ last
unfolding check_fault last
check_known bs ev =
    next_known _ (picture_known bs)
    (next_known _ (on_known _ (omega arith))
    (next_known _ (on_known _ (omega arith))
    (next_known _ (on_known _ (omega arith)) (next_known _ (map_known _ _ (section_known _ _ ev _)) (next_known _ (on_known _ (omega arith)) none_known)))))

cut_known : (a : Act) (p : Picture) (b : ℕ) → cut_fault a p b ≤ last
unfolding cut_fault last
cut_known Evict p b = on_known _ (omega arith)
cut_known Reload p b = omega arith
cut_known Free p b = on_known _ (omega arith)

near_known : (a : Act) (p : Picture) (b : ℕ) → near_fault a p b ≤ last
unfolding near_fault last
near_known Evict p b = omega arith
near_known Reload p b = on_known _ (omega arith)
near_known Free p b = omega arith

act_known : (a : Act) (bs : List ℕ) (b : ℕ) → act_fault a bs b ≤ last
unfolding act_fault last
act_known a bs b = next_known _ (picture_known bs) (next_known _ (block_known _ b) (next_known _ (on_known _ (omega arith)) (next_known _ (cut_known a _ b) (next_known _ (near_known a _ b) none_known))))

write_known : (l : Lists) (buf : List ℕ) → write_fault l buf ≤ last
unfolding write_fault handed_faults list_faults last
write_known l buf =
    next_known _ (on_known _ (omega arith))
    (next_known _ (on_known _ (omega arith))
    (next_known _ (on_known _ (omega arith))
    (next_known _ (on_known _ (omega arith))
    (next_known _ (on_known _ (omega arith))
    (next_known _ (on_known _ (omega arith))
    (next_known _ (map_known _ _ (λ s. state_known s.state))
    (next_known _ (map_known _ _ (link_known _))
    (next_known _ (map_known _ _ (service_link_known _ _)) (next_known _ (on_known _ (omega arith)) none_known)))))))))

generate_known : (h : Header) (buf : List ℕ) → generate_fault h buf ≤ last
unfolding generate_fault asked_faults last
generate_known h buf =
    next_known _ (on_known _ (omega arith))
    (next_known _ (on_known _ (omega arith)) (next_known _ (on_known _ (omega arith)) (next_known _ (on_known _ (omega arith)) none_known)))

price_known : (bs records : List ℕ) → price_fault bs records ≤ last
unfolding price_fault flat_fault length_fault records_fault link_start_fault record_fault last
price_known bs records =
    next_known _ (picture_known bs)
    (next_known _ (map_known _ _ (λ l. on_known _ (omega arith)))
    (next_known _ (on_known _ (omega arith)) (next_known _ (map_known _ _ (λ r. on_known _ (omega arith))) none_known)))

-- ---- what each call answers

pub reading_numbers_lem : (bs : List ℕ) → reading_numbers (reading bs) ≡ outcome (picture_fault bs) (header_values (header_of bs))
unfolding reading picture_fault header_of
reading_numbers_lem bs = numbers_told header_values _ _ (picture_known bs)

pub weighing_numbers_lem : (bs : List ℕ) (b : ℕ) → weighing_numbers (weighing bs b) ≡ outcome (weigh_fault bs b) (weight_values (weights_of (picture_of bs) b))
unfolding weighing
weighing_numbers_lem bs b = numbers_told weight_values _ _ (weigh_known bs b)

pub choosing_numbers_lem : (bs buf : List ℕ) → choosing_numbers (choosing bs buf) ≡ outcome (choose_fault bs buf) (length_for bs ∷ [])
unfolding choosing
choosing_numbers_lem bs buf = numbers_told (λ size. size ∷ []) _ _ (choose_known bs buf)

pub checking_numbers_lem : (bs ev : List ℕ) → checking_numbers (checking bs ev) ≡ outcome (check_fault bs ev) []
unfolding checking
checking_numbers_lem bs ev = numbers_told (λ _. []) tt _ (check_known bs ev)

pub acting_numbers_lem : (a : Act) (bs : List ℕ) (b : ℕ) → acting_numbers (acting a bs b) ≡ outcome (act_fault a bs b) []
unfolding acting
acting_numbers_lem a bs b = numbers_told (λ _. []) tt _ (act_known a bs b)

pub writing_numbers_lem : (l : Lists) (buf : List ℕ) → writing_numbers (writing l buf) ≡ outcome (write_fault l buf) (size_for l ∷ [])
unfolding writing
writing_numbers_lem l buf = numbers_told (λ size. size ∷ []) _ _ (write_known l buf)

pub generating_numbers_lem : (h : Header) (buf : List ℕ) → writing_numbers (generating h buf) ≡ outcome (generate_fault h buf) (size_of h ∷ [])
unfolding generating
generating_numbers_lem h buf = numbers_told (λ size. size ∷ []) _ _ (generate_known h buf)

pub pricing_numbers_lem : (bs records : List ℕ)
    → pricing_numbers (pricing bs records) ≡ outcome (price_fault bs records) (counters (picture_of bs) (records_of records))
unfolding pricing
pricing_numbers_lem bs records = numbers_told (λ counters. counters) _ _ (price_known bs records)
