-- Every row of the table is right, by computation. Assumes nothing.
use mathlib.Core.Path.{◌≡◌}
use mathlib.Core.Bool.{Bool}
use mathlib.Core.List.{zip_with}
use Prim.Native.Nat.{ℕ, ◌<◌}
use lib.Dec.{T}
use lib.ListN.{length, get_or}
use Rattle.bits.specs.Bits.{bit_at, number, field_at, set_bit, put_field}
use Rattle.lists.specs.Lists.{range, on, first, sum, lowest, equal, item, all, any, filter, place, flat}
use Rattle.lists.proofs.Tests.{all_at, equal_same}
use Rattle.picture.specs.Layout.{edition_for, edition_number, header_widths, slot_widths, endpoint_widths, link_widths, service_link_widths, field_in, slots_at, header_bytes, endpoints_at, links_at, service_links_at, end_at, size_of}
use Rattle.picture.specs.Picture.{header_in, slot_at, endpoint_at, link_at, rows, picture_with, header_of, picture_of, slot_of, endpoint_of}
use Rattle.picture.specs.Refusals.{refusal_of, answer_of, answer_numbers}
use Rattle.picture.specs.Answers.{header_values, reading}
use Rattle.picture.specs.Faults.{sizes_right, counts_right, state_fault, link_fault, service_link_fault, list_faults, end_right, body_faults, faults_with, picture_fault}
use Rattle.graph.specs.Rounds.{further, within, reached_in, levels, depth_in, reached_by, node_in, forest}
use Rattle.network.specs.Words.{slot_count, endpoint_count, block_count, in_block, is_held, without_block, joins, weight_of}
use Rattle.network.specs.Tests.{marks, served, cut, cut_protected, sum_where, served_weight, weighed, is_candidate, candidates, is_near_held}
use Rattle.weigh.specs.Weighing.{block_fault, weigh_fault, weights_of, weighing, weight_values}
use Rattle.price.specs.Traffic.{record_at, records_of, traffic}
use Rattle.price.specs.Faults.{link_start_fault, flat_fault, length_fault, record_fault, records_fault, price_fault}
use Rattle.price.specs.Answers.{counters, pricing}
use Rattle.packing.specs.Packing.{fields_of, digits, bits, bytes_of, packed}
use Rattle.graph.specs.Kept.{node_of}
use Rattle.evidence.specs.Layout.{head_widths, node_widths, section_head_widths, forest_bits, section_bits, section_bytes, section_at, forest_at, evidence_bytes}
use Rattle.evidence.specs.Canonical.{weighings, is_less, bettered, bettering, least, choice, head_fields, node_fields, forest_fields, forest_of, section_fields, evidence_fields, evidence_of}
use Rattle.evidence.specs.Contents.{head_in, section_in, node_at, forest_in, first_forest, section_forest}
use Rattle.evidence.specs.Checks.{is_in, node_right, link_right, forest_right, head_right, section_right, sections_right, form_right, section_fault, is_named, head_states, verdict_right, check_fault}
use Rattle.evidence.specs.Calls.{length_for, choose_fault, chosen_bytes, shown_part, shown}
use Rattle.choose.specs.Answers.{choosing}
use Rattle.checker.specs.Answers.{checking}
use Rattle.acts.specs.Faults.{changes, cuts_over, cut_fault, near_fault, act_fault}
use Rattle.acts.specs.Answers.{act_bytes, acting}
use Rattle.acts.specs.Acts.{after, held_or_recoverable, block_slots, recoverable_near, near_after, state_at, put_states, done_bytes}
use Rattle.demands.specs.Calls.{call_bytes, bytes_after}
use Rattle.write.specs.Columns.{handed, slot_from, endpoint_from, link_from, picture_from, header_for, pair_of, lists_of, lists_in}
use Rattle.write.specs.Fields.{header_fields, slot_fields, endpoint_fields, link_fields, picture_fields, picture_bytes}
use Rattle.write.specs.Rules.{size_for}
use Rattle.write.specs.Faults.{handed_faults, write_fault}
use Rattle.write.specs.Answers.{filled, writing, bytes_for, written_bytes}
use Rattle.draws.specs.Draws.{state_after, folded, draw_of, draw}
use Rattle.generator.specs.Generated.{asked_header, drawn_rows, drawn_slot, drawn_endpoint, drawn_link, drawn_service_link, generated}
use Rattle.generator.specs.Faults.{asked_faults, generate_fault}
use Rattle.generator.specs.Answers.{generating, generated_picture, generated_bytes}
use Rattle.listing.specs.Decimal.{places, decimal}
use Rattle.listing.specs.Listing.{served_word, block_word, lost_word, mark_word, choose_word, none_word, refused_word, line_end, phrase, served_line, block_line, choice_line, refused_line, plan_lines, listing_of, listing}
use Rattle.examples.specs.Cases.{evidence_a, lines_a, lists_with, lists_a, case_a, case_b, case_c, case_d, case_e, case_f, case_g, case_h, case_i, case_j, case_k, case_m, case_fewer, case_zero, case_equal, case_wide, case_second, evidence_second, case_far, far_forest, evidence_far, case_flat, flat_second, flat_records, lines_far}
use Rattle.examples.specs.Table.{call_numbers, answer, Row, slots_only, slots_only_second, one_link, with_slots, freed_a, room_a, calls_a, chain_besides, chain_over_both, calls_g, evicted_wide, evicted_second, freed_second, one_slot, sixty, all_wrong, drawn_a, table}

-- its line names all that the examples compute through
passes : Row → Bool
unfolding bit_at number field_at range on first sum equal item all edition_for edition_number header_widths slot_widths endpoint_widths link_widths service_link_widths field_in slots_at header_bytes endpoints_at links_at service_links_at end_at size_of header_in slot_at endpoint_at link_at rows picture_with header_of picture_of slot_of endpoint_of sizes_right counts_right state_fault link_fault service_link_fault list_faults end_right body_faults faults_with picture_fault any further within reached_in slot_count endpoint_count block_count in_block is_held without_block joins weight_of marks served cut cut_protected sum_where served_weight weighed block_fault weigh_fault weights_of weighing lowest filter place flat levels depth_in reached_by node_in forest is_candidate candidates digits bits bytes_of packed node_of head_widths node_widths section_head_widths forest_bits section_bits section_at evidence_bytes weighings least choice fields_of head_fields node_fields forest_fields forest_of section_fields evidence_fields evidence_of head_in section_in node_at forest_in first_forest section_forest is_in node_right link_right forest_right head_right section_right sections_right form_right section_fault is_named head_states verdict_right check_fault length_for choose_fault chosen_bytes shown_part shown header_values refusal_of answer_of answer_numbers reading choosing checking acting is_less bettered bettering section_bytes forest_at freed_a set_bit put_field is_near_held after held_or_recoverable block_slots changes cuts_over cut_fault recoverable_near near_after near_fault act_fault state_at put_states done_bytes act_bytes call_bytes bytes_after call_numbers room_a calls_a chain_besides chain_over_both calls_g with_slots evidence_a case_a case_b case_c case_d case_e case_f case_g case_h case_i case_j case_k case_m case_fewer case_zero case_equal case_wide evicted_wide case_second evidence_second evicted_second freed_second case_far far_forest evidence_far lines_far places decimal served_word block_word lost_word mark_word choose_word none_word refused_word line_end phrase served_line block_line choice_line refused_line plan_lines listing_of listing lines_a weight_values handed slot_from endpoint_from link_from picture_from header_for pair_of lists_of lists_in header_fields slot_fields endpoint_fields link_fields picture_fields picture_bytes size_for handed_faults write_fault writing filled bytes_for written_bytes state_after folded draw_of draw asked_header drawn_rows drawn_slot drawn_endpoint drawn_link drawn_service_link generated asked_faults generate_fault generating generated_picture generated_bytes drawn_a zip_with lists_with lists_a one_slot all_wrong record_at records_of traffic link_start_fault flat_fault length_fault record_fault records_fault price_fault counters pricing case_flat flat_second flat_records sixty answer slots_only slots_only_second one_link
passes r = equal (answer r.question) r.says

tested : T (all passes table)
unfolding passes table
tested = tt

-- one theorem over the rows
pub right : (i : ℕ) → i < length table → (d : Row) → answer (get_or table i d).question ≡ (get_or table i d).says
unfolding passes
right i h d = equal_same _ _ (all_at passes table tested i h d)
