-- What the top of a text of the form has, in each order of its members.
use Rattle.std.proofs.Common.{◌≡◌, ℕ, ◌==◌, Bool, true, false, ◌&&◌, List, [], ◌∷◌, ◌++◌, length, Option, Some, None, if◌then◌else◌, codes, refl, ◌∙◌}
use Rattle.std.specs.Prelude.{flat_map}
use Rattle.std.specs.List.{enumerate_from}
use Rattle.std.specs.Option.{option_map}
use Rattle.std.specs.Str.{bytes_eq}
use Rattle.std.proofs.lemmas.List.{append-nil}
use Rattle.json_exact.specs.declared.json.Json.{Json}
use Rattle.json_exact.specs.declared.json.Member.{Member}
use Rattle.json_exact.specs.Path.{member_value}
use Rattle.spec_walk.specs.Walk.{Visiting, Seen, seen_in, seen_members, member_parts}
use Rattle.spec_schema.specs.declared.layout.Layout.{Layout}
use Rattle.vl_schema.specs.Schema.{vl_schema}
use Rattle.vl_schema.specs.declared.codes.TheConstants.{DATA, ENCODING, MARK, TOP}
use Rattle.vl_building.specs.declared.gather.Around.{Around}
use Rattle.vl_building.specs.Gather.{Trail, noted, data_seen, params_seen}
use Rattle.vl_building.specs.Views.{is_view_kind, member_number, view_word}
use Rattle.first_form.specs.FirstForm.{has_each}
use Rattle.form_reading.proofs.Orders.{member, Apart, three_of}
use Rattle.form_reading.proofs.Tables.{HasLayout, top_unit, d, m, e, top_dme, top_dem, top_mde, top_med, top_edm, top_emd}
use Rattle.form_reading.proofs.Tables.{data_shape, mark_shape, encoding_shape}
use Rattle.form_reading.proofs.Walks.{part_known}

-- ---- other names

passed : (b : Bool) (m : Member) (found : Option Json) (others : Option Member) → b ≡ false → option_map (λ (n : Member). n.value) others ≡ found
    → option_map (λ (n : Member). n.value) (if b then Some m else others) ≡ found
passed true m found others h is = absurd (cc)
passed false m found others h is = is

-- no member of three has another name
none_of_three : (a b c : List ℕ) (x y z : Json) (name : List ℕ) → bytes_eq a name ≡ false → bytes_eq b name ≡ false → bytes_eq c name ≡ false
    → member_value (member a x ∷ member b y ∷ member c z ∷ []) name ≡ None
none_of_three a b c x y z name not_a not_b not_c =
    passed (bytes_eq a name) (member a x) None _ not_a (passed (bytes_eq b name) (member b y) None _ not_b
    (passed (bytes_eq c name) (member c z) None None not_c refl))

-- ---- visits

-- what three members give
three_parts : {P : Type 0} (layout : Layout) (trail : Trail) (a b c : List ℕ) (sa sb sc : Seen Around P) (ra rb rc : List P)
    → member_parts layout trail (0, (a, sa)) ≡ ra → member_parts layout trail (1, (b, sb)) ≡ rb → member_parts layout trail (2, (c, sc)) ≡ rc
    → flat_map (member_parts layout trail) (enumerate_from 0 ((a, sa) ∷ (b, sb) ∷ (c, sc) ∷ [])) ≡ ra ++ (rb ++ (rc ++ []))
three_parts layout trail a b c sa sb sc ra rb rc is_a is_b is_c = λ i. is_a i ++ (is_b i ++ (is_c i ++ []))

-- what visits find at the top, where they find this in the data, by its number, and nothing in the mark and the encoding
pub record Found {P : Type 0} (visit : Visiting Around P) (dv mv ev : Json) (given : ℕ → List P) (trail : Trail) : Type 0 where
  pub of_data : (n : ℕ) → seen_in vl_schema noted visit dv n DATA trail ≡ given n
  pub of_mark : (n : ℕ) → seen_in vl_schema noted visit mv n MARK trail ≡ []
  pub of_encoding : (n : ℕ) → seen_in vl_schema noted visit ev n ENCODING trail ≡ []

-- then this is what they find there
abbrev pub FindsData : {P : Type 0} → Visiting Around P → Json → Json → Json → List Member → ℕ → Type 0
FindsData {P} visit dv mv ev members number = (given : ℕ → List P) (trail : Trail) → Found visit dv mv ev given trail
    → flat_map (member_parts top_unit trail) (enumerate_from 0 (seen_members vl_schema noted visit members)) ≡ given number

module _ {P : Type 0} (visit : Visiting Around P) (dv mv ev : Json) (given : ℕ → List P) (trail : Trail) (found : Found visit dv mv ev given trail) where
  abbrev sd : Seen Around P
  sd = seen_in vl_schema noted visit dv

  abbrev sm : Seen Around P
  sm = seen_in vl_schema noted visit mv

  abbrev se : Seen Around P
  se = seen_in vl_schema noted visit ev

  d_part : (n : ℕ) → member_parts top_unit trail (n, (codes "data", sd)) ≡ given n
  d_part n = part_known top_unit trail n (codes "data") sd DATA (given n) data_shape (found.of_data n)

  m_part : (n : ℕ) → member_parts top_unit trail (n, (codes "mark", sm)) ≡ []
  m_part n = part_known top_unit trail n (codes "mark") sm MARK [] mark_shape (found.of_mark n)

  e_part : (n : ℕ) → member_parts top_unit trail (n, (codes "encoding", se)) ≡ []
  e_part n = part_known top_unit trail n (codes "encoding") se ENCODING [] encoding_shape (found.of_encoding n)

  parts_dme : flat_map (member_parts top_unit trail) (enumerate_from 0 (seen_members vl_schema noted visit (d dv ∷ m mv ∷ e ev ∷ []))) ≡ given 0
  parts_dme = three_parts top_unit trail (codes "data") (codes "mark") (codes "encoding") sd sm se
      (given 0) [] [] (d_part 0) (m_part 1) (e_part 2) ∙ append-nil (given 0)

  parts_dem : flat_map (member_parts top_unit trail) (enumerate_from 0 (seen_members vl_schema noted visit (d dv ∷ e ev ∷ m mv ∷ []))) ≡ given 0
  parts_dem = three_parts top_unit trail (codes "data") (codes "encoding") (codes "mark") sd se sm
      (given 0) [] [] (d_part 0) (e_part 1) (m_part 2) ∙ append-nil (given 0)

  parts_mde : flat_map (member_parts top_unit trail) (enumerate_from 0 (seen_members vl_schema noted visit (m mv ∷ d dv ∷ e ev ∷ []))) ≡ given 1
  parts_mde = three_parts top_unit trail (codes "mark") (codes "data") (codes "encoding") sm sd se
      [] (given 1) [] (m_part 0) (d_part 1) (e_part 2) ∙ append-nil (given 1)

  parts_med : flat_map (member_parts top_unit trail) (enumerate_from 0 (seen_members vl_schema noted visit (m mv ∷ e ev ∷ d dv ∷ []))) ≡ given 2
  parts_med = three_parts top_unit trail (codes "mark") (codes "encoding") (codes "data") sm se sd
      [] [] (given 2) (m_part 0) (e_part 1) (d_part 2) ∙ append-nil (given 2)

  parts_edm : flat_map (member_parts top_unit trail) (enumerate_from 0 (seen_members vl_schema noted visit (e ev ∷ d dv ∷ m mv ∷ []))) ≡ given 1
  parts_edm = three_parts top_unit trail (codes "encoding") (codes "data") (codes "mark") se sd sm
      [] (given 1) [] (e_part 0) (d_part 1) (m_part 2) ∙ append-nil (given 1)

  parts_emd : flat_map (member_parts top_unit trail) (enumerate_from 0 (seen_members vl_schema noted visit (e ev ∷ m mv ∷ d dv ∷ []))) ≡ given 2
  parts_emd = three_parts top_unit trail (codes "encoding") (codes "mark") (codes "data") se sm sd
      [] [] (given 2) (e_part 0) (m_part 1) (d_part 2) ∙ append-nil (given 2)

-- ---- the top

-- What is known of the members of the top.
pub record TopKnown (members : List Member) (dv mv ev : Json) : Type 0 where
  pub data_is : member_value members (codes "data") ≡ Some dv
  pub mark_is : member_value members (codes "mark") ≡ Some mv
  pub encoding_is : member_value members (codes "encoding") ≡ Some ev
  pub others : (name : List ℕ) → bytes_eq (codes "data") name ≡ false → bytes_eq (codes "mark") name ≡ false → bytes_eq (codes "encoding") name ≡ false
      → member_value members name ≡ None
  pub number : ℕ
  pub numbered : member_number members (codes "data") ≡ Some number
  pub word : view_word members ≡ codes "mark"
  pub laid : HasLayout TOP members top_unit
  pub data_found : FindsData data_seen dv mv ev members number
  pub params_found : FindsData params_seen dv mv ev members number

top_is_dme : (dv mv ev : Json) → TopKnown (d dv ∷ m mv ∷ e ev ∷ []) dv mv ev
unfolding is_view_kind
top_is_dme dv mv ev = record {
  data_is = refl;
  mark_is = refl;
  encoding_is = refl;
  others = λ name not_d not_m not_e. none_of_three (codes "data") (codes "mark") (codes "encoding") dv mv ev name not_d not_m not_e;
  number = 0;
  numbered = refl;
  word = refl;
  laid = top_dme dv mv ev;
  data_found = λ given trail found. parts_dme data_seen dv mv ev given trail found;
  params_found = λ given trail found. parts_dme params_seen dv mv ev given trail found;
}

top_is_dem : (dv mv ev : Json) → TopKnown (d dv ∷ e ev ∷ m mv ∷ []) dv mv ev
unfolding is_view_kind
top_is_dem dv mv ev = record {
  data_is = refl;
  mark_is = refl;
  encoding_is = refl;
  others = λ name not_d not_m not_e. none_of_three (codes "data") (codes "encoding") (codes "mark") dv ev mv name not_d not_e not_m;
  number = 0;
  numbered = refl;
  word = refl;
  laid = top_dem dv mv ev;
  data_found = λ given trail found. parts_dem data_seen dv mv ev given trail found;
  params_found = λ given trail found. parts_dem params_seen dv mv ev given trail found;
}

top_is_mde : (dv mv ev : Json) → TopKnown (m mv ∷ d dv ∷ e ev ∷ []) dv mv ev
unfolding is_view_kind
top_is_mde dv mv ev = record {
  data_is = refl;
  mark_is = refl;
  encoding_is = refl;
  others = λ name not_d not_m not_e. none_of_three (codes "mark") (codes "data") (codes "encoding") mv dv ev name not_m not_d not_e;
  number = 1;
  numbered = refl;
  word = refl;
  laid = top_mde dv mv ev;
  data_found = λ given trail found. parts_mde data_seen dv mv ev given trail found;
  params_found = λ given trail found. parts_mde params_seen dv mv ev given trail found;
}

top_is_med : (dv mv ev : Json) → TopKnown (m mv ∷ e ev ∷ d dv ∷ []) dv mv ev
unfolding is_view_kind
top_is_med dv mv ev = record {
  data_is = refl;
  mark_is = refl;
  encoding_is = refl;
  others = λ name not_d not_m not_e. none_of_three (codes "mark") (codes "encoding") (codes "data") mv ev dv name not_m not_e not_d;
  number = 2;
  numbered = refl;
  word = refl;
  laid = top_med dv mv ev;
  data_found = λ given trail found. parts_med data_seen dv mv ev given trail found;
  params_found = λ given trail found. parts_med params_seen dv mv ev given trail found;
}

top_is_edm : (dv mv ev : Json) → TopKnown (e ev ∷ d dv ∷ m mv ∷ []) dv mv ev
unfolding is_view_kind
top_is_edm dv mv ev = record {
  data_is = refl;
  mark_is = refl;
  encoding_is = refl;
  others = λ name not_d not_m not_e. none_of_three (codes "encoding") (codes "data") (codes "mark") ev dv mv name not_e not_d not_m;
  number = 1;
  numbered = refl;
  word = refl;
  laid = top_edm dv mv ev;
  data_found = λ given trail found. parts_edm data_seen dv mv ev given trail found;
  params_found = λ given trail found. parts_edm params_seen dv mv ev given trail found;
}

top_is_emd : (dv mv ev : Json) → TopKnown (e ev ∷ m mv ∷ d dv ∷ []) dv mv ev
unfolding is_view_kind
top_is_emd dv mv ev = record {
  data_is = refl;
  mark_is = refl;
  encoding_is = refl;
  others = λ name not_d not_m not_e. none_of_three (codes "encoding") (codes "mark") (codes "data") ev mv dv name not_e not_m not_d;
  number = 2;
  numbered = refl;
  word = refl;
  laid = top_emd dv mv ev;
  data_found = λ given trail found. parts_emd data_seen dv mv ev given trail found;
  params_found = λ given trail found. parts_emd params_seen dv mv ev given trail found;
}

names_apart : Apart (codes "data") (codes "mark") (codes "encoding")
names_apart = record { ab = refl; ac = refl; ba = refl; bc = refl; ca = refl; cb = refl }

-- What holds wherever this is known holds of each object with these members and no others.
pub by_top : (P : List Member → Type 0) → ((members : List Member) (dv mv ev : Json) → TopKnown members dv mv ev → P members) → (members : List Member)
    → (length members == 3 && has_each members (codes "data" ∷ codes "mark" ∷ codes "encoding" ∷ [])) ≡ true → P members
by_top P holds = three_of P (codes "data") (codes "mark") (codes "encoding") names_apart (record {
  abc = λ dv mv ev. holds _ dv mv ev (top_is_dme dv mv ev);
  acb = λ dv mv ev. holds _ dv mv ev (top_is_dem dv mv ev);
  bac = λ dv mv ev. holds _ dv mv ev (top_is_mde dv mv ev);
  bca = λ dv mv ev. holds _ dv mv ev (top_is_med dv mv ev);
  cab = λ dv mv ev. holds _ dv mv ev (top_is_edm dv mv ev);
  cba = λ dv mv ev. holds _ dv mv ev (top_is_emd dv mv ev);
})
