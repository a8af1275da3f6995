use Rattle.std.proofs.Common.{◌≡◌, ◌++◌, Bool, List, length, take, drop, inl, inr, sym, subst, ◌∙◌, ⊎_elim, arith}
use Rattle.fg_closure.specs.Flags.{IsFlagged}
use Rattle.fg_closure.proofs.Findings.{all_have_flags, found, whole}
use Rattle.fg_closure.proofs.closure.Closure.find.Goals as goal

pub follow_all-requires-clause-flags : goal.follow_all-requires-clause-flags
follow_all-requires-clause-flags c =
    let lines = c.deref-2.ensures.value ∙ whole c.args.self.now.lines.len c.read_lines.new.lines c.args.self.now.lines.items
    (omega (arith, c.read_lines.auto.lines, c.deref_mut-3.ensures.len)) in
    all_have_flags c.args.desk.now.state c.saturating_sub-first.result (length c.deref_mut-4.result.now) c.deref-2.result.now c.depth.ensures.facts
    (omega (arith, c.depth.ensures.value, c.depth.ensures.limit)) (omega (arith, c.saturating_sub-first.ensures, c.mark-mark.ensures))
    (omega (arith, c.deref_mut-4.ensures.len, c.copy_from_slice.ensures.len, c.args.self.now.closed_count))
    (λ place line is. (c.read_lines.ensures.lines place line).0 (rw lines at is))

pub follow_all-requires-clause-watched : goal.follow_all-requires-clause-watched
follow_all-requires-clause-watched c place line is =
    let lines = c.deref-2.ensures.value ∙ whole c.args.self.now.lines.len c.read_lines.new.lines c.args.self.now.lines.items
    (omega (arith, c.read_lines.auto.lines, c.deref_mut-3.ensures.len)) in
    inl (c.read_lines.ensures.queued place line (rw lines at is))

pub returns : goal.returns
returns c =
    let first = c.saturating_sub-first.result in
    let copied = c.copy_from_slice.new.self in
    let before : c.deref_mut-2.result.now ≡ c.read_words.new.flags =
    c.deref_mut-2.ensures.value ∙ c.copy_from_slice.ensures.items ∙ c.deref.ensures.value
    ∙ whole c.args.self.now.known.len c.read_words.new.flags c.args.self.now.known.items (omega (arith, c.read_words.auto.flags, c.deref_mut.ensures.len)) in
    let after : c.deref_mut-4.result.now ≡ c.read_found.new.flags =
    c.deref_mut-4.ensures.value
    ∙ whole copied.len c.read_found.new.flags copied.items (omega (arith, c.read_found.auto.flags, c.deref_mut-2.ensures.len)) in
    let found = found c.args.desk.now.state first c.read_words.new.flags _ c.deref_mut-4.result.now c.follow_all.new.flags _ c.read_lines.new.lines _
    c.deref-2.result.now c.depth.ensures.facts c.read_words.ensures c.read_lines.ensures.lines (c.follow_all.ensures.way c.args.desk.now.state)
    c.follow_all.ensures.done
    (λ position flagged. subst (λ (f : List Bool). IsFlagged first f position) (sym after)
    (c.read_found.ensures.kept position (subst (λ (f : List Bool). IsFlagged first f position) (sym before) flagged)))
    (λ position flagged. ⊎_elim (λ was. inl (subst (λ (f : List Bool). IsFlagged first f position) before was)) (λ inside. inr inside)
    (c.read_found.ensures.follow position (subst (λ (f : List Bool). IsFlagged first f position) after flagged)))
    (c.deref-2.ensures.value ∙ whole c.args.self.now.lines.len c.read_lines.new.lines c.args.self.now.lines.items
    (omega (arith, c.read_lines.auto.lines, c.deref_mut-3.ensures.len)))
    (whole c.args.self.now.known.len c.read_words.new.flags c.args.self.now.known.items (omega (arith, c.read_words.auto.flags, c.deref_mut.ensures.len)))
    (whole copied.len c.follow_all.new.flags (take copied.len (c.read_found.new.flags ++ drop (length c.read_found.new.flags) copied.items))
    (omega (arith, c.follow_all.auto.flags, c.deref_mut-4.ensures.len)))
    (whole c.args.self.now.lines.len c.read_lines.new.lines c.args.self.now.lines.items
    (omega (arith, c.read_lines.auto.lines, c.deref_mut-3.ensures.len))) in record {
      facts = c.depth.ensures.facts;
      depth = omega (arith, c.depth.ensures.value, c.depth.ensures.limit);
      mark_is = c.mark-mark.ensures;
      known = found.known;
      closed = found.closed;
      lines = found.lines;
    }
