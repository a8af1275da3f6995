use Rattle.std.proofs.Common.{false, nat_lt, if◌then◌else◌, ap, sym, subst, ◌∙◌}
use Rattle.std.specs.FinSet.{contains}
use Rattle.fg_peel.specs.declared.Slot.{Slot}
use Rattle.fg_peel.specs.Slots.{word_in}
use Rattle.fg_buffer.specs.PlayoutBuffer.{BufferState, IsBuffer, buffer_known, buffer_shared}
use Rattle.fg_buffer.specs.BufferEntries.{shared_in, is_found}
use Rattle.fg_buffer.proofs.BufferViews.{buffer_known-entry, buffer_shared-entry, contains-repaired, is_buffer, repaired_is_known}
use Rattle.fg_buffer.proofs.playout_buffer.PlayoutBuffer.told.Goals as goal

pub returns-clause-word : goal.returns-clause-word
returns-clause-word c =
    let mark = c.self.inside.mark in
    let q = c.args.position in
    c.told_of.ensures.word
    ∙ ap (λ (s : Slot). if nat_lt q mark then word_in s else shared_in s) c.entry.ensures
    ∙ sym (buffer_known-entry mark c.self.inside.entries q)
    ∙ ap (λ (r : BufferState). buffer_known r q) c.self.view_is

pub returns-clause-share : goal.returns-clause-share
returns-clause-share c =
    let mark = c.self.inside.mark in
    c.told_of.ensures.share ∙ ap shared_in c.entry.ensures
    ∙ sym (buffer_shared-entry mark c.self.inside.entries c.args.position)
    ∙ ap (λ (r : BufferState). buffer_shared r c.args.position) c.self.view_is

pub returns-clause-repaired : goal.returns-clause-repaired
returns-clause-repaired c =
    let mark = c.self.inside.mark in
    let q = c.args.position in
    c.told_of.ensures.repaired
    ∙ ap (λ (s : Slot). if nat_lt q mark then is_found s else false) c.entry.ensures
    ∙ sym (contains-repaired mark c.self.inside.entries q)
    ∙ ap (λ (r : BufferState). contains r.repaired q) c.self.view_is

pub returns-clause-some : goal.returns-clause-some
returns-clause-some c =
    let is : IsBuffer c.args.self.now = subst (λ (r : BufferState). IsBuffer r) c.self.view_is (is_buffer c.self.inside.mark c.self.inside.entries c.self.invariant.0) in
    λ repaired. repaired_is_known c.args.self.now is c.args.position (sym (returns-clause-repaired c) ∙ repaired)
