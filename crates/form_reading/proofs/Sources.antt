-- What the data of a text of the form is.
use Rattle.std.proofs.Common.{◌≡◌, ℕ, ◌==◌, true, ◌&&◌, List, [], ◌∷◌, ◌++◌, length, Option, Some, None, codes, refl, ap, ◌∙◌}
use Rattle.std.specs.Prelude.{flat_map}
use Rattle.std.specs.List.{enumerate_from}
use Rattle.json_exact.specs.declared.json.Json.{Json, out-Json}
use Rattle.json_exact.specs.declared.json.Json.TheOpen as level
use Rattle.json_exact.specs.declared.json.Member.{Member}
use Rattle.json_exact.specs.Path.{member_value}
use Rattle.json_exact.specs.Inside.{text_in}
use Rattle.spec_walk.specs.Walk.{Visiting, seen_in, seen_members, member_parts}
use Rattle.vl_schema.specs.Schema.{vl_schema}
use Rattle.vl_schema.specs.Sources.{source_of_values}
use Rattle.vl_schema.specs.declared.codes.TheConstants.{DATA, FREE, TEXT}
use Rattle.vl_building.specs.declared.data.DataAt.{DataAt}
use Rattle.vl_building.specs.declared.gather.Around.{Around}
use Rattle.vl_building.specs.Gather.{Trail, noted, data_seen, params_seen}
use Rattle.vl_building.specs.Sources.{data_at}
use Rattle.first_form.specs.FirstForm.{has_each, found_at}
use Rattle.form_reading.proofs.Orders.{member, two_of}
use Rattle.form_reading.proofs.Channels.{text_known, text_leaf}
use Rattle.form_reading.proofs.Tables.{HasLayout, data_nv, data_vn, name_shape, values_shape}
use Rattle.form_reading.proofs.Walks.{Notes, data_notes, param_notes, leaf_seen, free_seen, part_known}

-- data of a name with values, which stands there
abbrev pub data_with : List ℕ → Option (List ℕ) → Json → DataAt
data_with place name values = record { place = place; name = name; url = None; format = None; values = Some values }

abbrev n : Json → Member
n = member (codes "name")

abbrev v : Json → Member
v = member (codes "values")

read_nv : (place : List ℕ) (nv vv : Json) → data_at place (n nv ∷ v vv ∷ []) ≡ data_with place (text_in (out-Json nv)) vv
unfolding data_at
read_nv place nv vv = refl

read_vn : (place : List ℕ) (nv vv : Json) → data_at place (v vv ∷ n nv ∷ []) ≡ data_with place (text_in (out-Json nv)) vv
unfolding data_at
read_vn place nv vv = refl

-- visits find nothing in it
abbrev pub FindsNothing : {P : Type 0} → Visiting Around P → List Member → Type 0
FindsNothing visit members =
    (trail : Trail) → flat_map (member_parts source_of_values trail) (enumerate_from 0 (seen_members vl_schema noted visit members)) ≡ []

module _ {P : Type 0} (visit : Visiting Around P) (notes : Notes visit) (name : List ℕ) (nv vv : Json) (is : out-Json nv ≡ level.Text name)
    (trail : Trail) where
  name_seen : (number : ℕ) → member_parts source_of_values trail (number, (codes "name", seen_in vl_schema noted visit nv)) ≡ []
  name_seen number = part_known source_of_values trail number (codes "name") (seen_in vl_schema noted visit nv) TEXT [] name_shape
      (leaf_seen visit notes nv number TEXT trail (text_leaf (out-Json nv) name is))

  values_seen : (number : ℕ) → member_parts source_of_values trail (number, (codes "values", seen_in vl_schema noted visit vv)) ≡ []
  values_seen number = part_known source_of_values trail number (codes "values") (seen_in vl_schema noted visit vv) FREE [] values_shape
      (free_seen visit notes vv number trail)

  name_then_values : flat_map (member_parts source_of_values trail) (enumerate_from 0 (seen_members vl_schema noted visit (n nv ∷ v vv ∷ []))) ≡ []
  name_then_values = λ i. name_seen 0 i ++ (values_seen 1 i ++ [])

  values_then_name : flat_map (member_parts source_of_values trail) (enumerate_from 0 (seen_members vl_schema noted visit (v vv ∷ n nv ∷ []))) ≡ []
  values_then_name = λ i. values_seen 0 i ++ (name_seen 1 i ++ [])

-- What is known of the members of the data of a form of this name.
pub record SourceKnown (name : List ℕ) (members : List Member) : Type 0 where
  pub written : Json
  pub values : member_value members (codes "values") ≡ Some written
  pub read : (place : List ℕ) → data_at place members ≡ data_with place (Some name) written
  pub laid : HasLayout DATA members source_of_values
  pub no_data : FindsNothing data_seen members
  pub no_params : FindsNothing params_seen members

module _ (name : List ℕ) where
  abbrev NameKnown : List Member → Type 0
  NameKnown members = found_at text_in members (codes "name") ≡ Some name → SourceKnown name members

  name_first : (nv vv : Json) → NameKnown (n nv ∷ v vv ∷ [])
  name_first nv vv text =
      let is = text_known (out-Json nv) name text in
      record {
        written = vv;
        values = refl;
        read = λ place. read_nv place nv vv ∙ ap (λ name. data_with place name vv) text;
        laid = data_nv nv vv;
        no_data = λ trail. name_then_values data_seen data_notes name nv vv is trail;
        no_params = λ trail. name_then_values params_seen param_notes name nv vv is trail;
      }

  values_first : (nv vv : Json) → NameKnown (v vv ∷ n nv ∷ [])
  values_first nv vv text =
      let is = text_known (out-Json nv) name text in
      record {
        written = vv;
        values = refl;
        read = λ place. read_vn place nv vv ∙ ap (λ name. data_with place name vv) text;
        laid = data_vn nv vv;
        no_data = λ trail. values_then_name data_seen data_notes name nv vv is trail;
        no_params = λ trail. values_then_name params_seen param_notes name nv vv is trail;
      }

  pub known_source : (members : List Member) → (length members == 2 && has_each members (codes "name" ∷ codes "values" ∷ [])) ≡ true → NameKnown members
  known_source = two_of NameKnown (codes "name") (codes "values") refl refl name_first values_first
