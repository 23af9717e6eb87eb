-- Why a state without a further id is one of a specification.
use Rattle.std.proofs.Common.{◌<◌, ◌+◌, arith}
use Rattle.std.proofs.lemmas.List.Elements.{All-weaker}
use Rattle.cell_value.specs.State.{State, all_rows, ids_of, greatest_id}
use Rattle.vega_spec.specs.declared.spec.VgSpec.{VgSpec}
use Rattle.vega_meaning.specs.States.{IsStateOf}

-- a state in which the greatest id counts as taken
abbrev pub without_ids : State → State
without_ids st = record { next_id = greatest_id + 1; sources = st.sources; params = st.params; stores = st.stores }

pub stays_state : (g : VgSpec) (st : State) → IsStateOf g st → IsStateOf g (without_ids st)
stays_state g st of =
    let is = of.is in
    let to = is.next_id_to in
    record {
      is = record {
        ids_read = is.ids_read;
        no_branch = is.no_branch;
        ids_rise = is.ids_rise;
        ids_distinct = is.ids_distinct;
        ids_below_next = All-weaker (λ id. id < st.next_id) (λ id. id < greatest_id + 1) (λ id below. omega (arith, below, to))
            (ids_of (all_rows st)) is.ids_below_next;
        next_id_from = omega arith;
        next_id_to = omega arith;
        few_rows = is.few_rows;
      };
      sources = of.sources;
      params = of.params;
      stores = of.stores;
    }
