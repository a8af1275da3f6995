use Rattle.std.proofs.Common.{ℕ, sym, ◌∙◌, arith}
use Rattle.fg_peel.specs.declared.Line.{Line}
use Rattle.fg_buffer.proofs.LiveSearch.{last_key, last_within}
use Rattle.fg_buffer.proofs.line_slab.end_of.Goals as goal

pub prove-unreachable-requires : goal.prove-unreachable-requires
prove-unreachable-requires c =
    let entry : ℕ × Line = (c.in-Some.key, c.in-Some.field-0-1.now) in
    let within = last_within c.args.lines.now c.next_back.new.self entry (sym c.iter.ensures.rest ∙ c.in-Some.ensures.steps) in
    omega (arith, within, c.capacity.ensures.slots, c.if-prove.true)

pub returns-in-Some : goal.returns-in-Some
returns-in-Some c key line is =
    let entry : ℕ × Line = (c.in-Some.key, c.in-Some.field-0-1.now) in
    let near = last_key c.args.lines.now c.next_back.new.self entry (sym c.iter.ensures.rest ∙ c.in-Some.ensures.steps) key line is in
    omega (arith, near)
