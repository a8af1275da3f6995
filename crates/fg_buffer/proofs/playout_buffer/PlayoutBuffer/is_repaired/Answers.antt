use Rattle.std.proofs.Common.{false, ap, sym, subst, ◌∙◌, le-ltb}
use Rattle.std.specs.FinSet.{contains}
use Rattle.fg_buffer.specs.PlayoutBuffer.{BufferState, IsBuffer}
use Rattle.fg_buffer.specs.BufferEntries.{is_found}
use Rattle.fg_buffer.proofs.Choices.{if-less, if-not_less}
use Rattle.fg_buffer.proofs.BufferViews.{contains-repaired, is_buffer, repaired_is_known}
use Rattle.fg_buffer.proofs.playout_buffer.PlayoutBuffer.is_repaired.Goals as goal

pub returns-then-position-self-clause-value : goal.returns-then-position-self-clause-value
returns-then-position-self-clause-value c =
    let mark = c.self.inside.mark in
    let q = c.args.position in
    c.is_found.ensures ∙ ap is_found c.entry.ensures
    ∙ sym (contains-repaired mark c.self.inside.entries q
    ∙ if-less q mark _ false c.if-position-self.true)
    ∙ ap (λ (r : BufferState). contains r.repaired q) c.self.view_is

pub returns-else-position-self-clause-value : goal.returns-else-position-self-clause-value
returns-else-position-self-clause-value c =
    let mark = c.self.inside.mark in
    let q = c.args.position in
    le-ltb q mark c.if-position-self.false
    ∙ sym (contains-repaired mark c.self.inside.entries q
    ∙ if-not_less q mark _ false c.if-position-self.false)
    ∙ ap (λ (r : BufferState). contains r.repaired q) c.self.view_is

pub returns-then-position-self-clause-word : goal.returns-then-position-self-clause-word
returns-then-position-self-clause-word c =
    let is : IsBuffer c.args.self.now = subst (λ (r : BufferState). IsBuffer r) c.self.view_is (is_buffer c.self.inside.mark c.self.inside.entries c.self.invariant.0) in
    λ repaired. repaired_is_known c.args.self.now is c.args.position (sym (returns-then-position-self-clause-value c) ∙ repaired)
