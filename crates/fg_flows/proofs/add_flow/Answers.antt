use Rattle.std.proofs.Common.{◌≡◌, nat_eq, ◌+◌, get_or, is_some, true, false, Some, sym, ◌∙◌, refl, arith}
use Rattle.std.specs.HashMap.{get}
use Rattle.fg_shape.specs.declared.kind.Kind.TheVariants.{Media, Column, Row}
use Rattle.fg_shape.specs.Kind.{port_of}
use Rattle.fg_flows.proofs.FlowLemmas.{added_at, apart_from_index, clash_found, found_at, index_grows}
use Rattle.fg_flows.proofs.add_flow.Goals as goal
use Rattle.fg_flows.proofs.add_flow.Goals.{then-contains_key-via-then-contains_key, then-contains_key-via-else-contains_key+then-contains_key-2, then-contains_key-via-else-contains_key+else-contains_key-2+then-contains_key-3}

pub returns-then-contains_key-clause-faults : goal.returns-then-contains_key-clause-faults
returns-then-contains_key-clause-faults c = (
  c.requires.before,
  (omega (arith, c.if-port-eq0.false), omega (arith, c.if-port-gt-LAST_PORT.false)),
  elim c.then-contains_key.branch [
    | then-contains_key-via-then-contains_key w ↦
        clash_found c.args.ports.now c.args.i (get_or c.args.ports.now c.args.i 0) Media c.args.owners.now c.requires.index (sym c.contains_key.ensures ∙ w.if-contains_key.true) refl
    | then-contains_key-via-else-contains_key+then-contains_key-2 w ↦
        clash_found c.args.ports.now c.args.i (get_or c.args.ports.now c.args.i 0 + 2) Column c.args.owners.now c.requires.index (found_at c.args.owners.now c.port-column.result (get_or c.args.ports.now c.args.i 0 + 2) true c.port-column.ensures (sym w.contains_key-else-contains_key.ensures ∙ w.if-contains_key-2.true)) refl
    | then-contains_key-via-else-contains_key+else-contains_key-2+then-contains_key-3 w ↦
        clash_found c.args.ports.now c.args.i (get_or c.args.ports.now c.args.i 0 + 4) Row c.args.owners.now c.requires.index (found_at c.args.owners.now c.port-row.result (get_or c.args.ports.now c.args.i 0 + 4) true c.port-row.ensures (sym w.contains_key-else-contains_key-2.ensures ∙ w.if-contains_key-3.true)) refl
  ],
)

pub returns-clause-good : goal.returns-clause-good
returns-clause-good c = record {
  in_range = (omega (arith, c.if-port-eq0.false), omega (arith, c.if-port-gt-LAST_PORT.false));
  apart = apart_from_index c.args.ports.now c.args.i c.args.owners.now c.requires.index
      (λ kind. elim kind as (λ k. is_some (get nat_eq c.args.owners.now (port_of (get_or c.args.ports.now c.args.i 0) k)) ≡ false) [
        | Media ↦ sym c.contains_key.ensures ∙ c.if-contains_key.false
        | Column ↦ found_at c.args.owners.now c.port-column.result (get_or c.args.ports.now c.args.i 0 + 2) false c.port-column.ensures (sym c.contains_key-else-contains_key.ensures ∙ c.if-contains_key-2.false)
        | Row ↦ found_at c.args.owners.now c.port-row.result (get_or c.args.ports.now c.args.i 0 + 4) false c.port-row.ensures (sym c.contains_key-else-contains_key-2.ensures ∙ c.if-contains_key-3.false)
      ]);
}

pub returns-clause-index : goal.returns-clause-index
returns-clause-index c =
    index_grows c.args.ports.now c.args.i (get_or c.args.ports.now c.args.i 0) c.args.owners.now c.insert.new.self c.insert-2.new.self c.insert-3.new.self
    refl c.requires.index
    (λ kind. elim kind as (λ k. is_some (get nat_eq c.args.owners.now (port_of (get_or c.args.ports.now c.args.i 0) k)) ≡ false) [
      | Media ↦ sym c.contains_key.ensures ∙ c.if-contains_key.false
      | Column ↦ found_at c.args.owners.now c.port-column.result (get_or c.args.ports.now c.args.i 0 + 2) false c.port-column.ensures (sym c.contains_key-else-contains_key.ensures ∙ c.if-contains_key-2.false)
      | Row ↦ found_at c.args.owners.now c.port-row.result (get_or c.args.ports.now c.args.i 0 + 4) false c.port-row.ensures (sym c.contains_key-else-contains_key-2.ensures ∙ c.if-contains_key-3.false)
    ])
    c.in_ok-insert.ensures.updates
    (added_at c.insert.new.self c.insert-2.new.self c.port-column.result (get_or c.args.ports.now c.args.i 0 + 2) (Some (c.args.i, Column)) c.port-column.ensures c.in_ok-insert-2.ensures.updates)
    (added_at c.insert-2.new.self c.insert-3.new.self c.port-row.result (get_or c.args.ports.now c.args.i 0 + 4) (Some (c.args.i, Row)) c.port-row.ensures c.in_ok-insert-3.ensures.updates)
