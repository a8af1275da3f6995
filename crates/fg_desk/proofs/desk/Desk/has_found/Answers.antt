use Rattle.std.proofs.Common.{◌≡◌, Bool, true, false, is_some, IsSome, IsTrue, refl, sym, subst, ◌∙◌}
use Rattle.fg_peel.proofs.Options.{none_of_copied, some_of_copied, none_has_no_value}
use Rattle.fg_playout.specs.Solution.{InClosure}
use Rattle.fg_desk.specs.Contents.{Contents, known_in}
use Rattle.fg_desk.specs.Parts.{parts_of}
use Rattle.fg_buffer.specs.PlayoutBuffer.{buffer_words}
use Rattle.fg_desk.proofs.FoundClosure.{is_found, found_follows, true_or_false}
use Rattle.fg_desk.proofs.desk.Desk.has_found.Goals as goal

pub returns-clause-known : goal.returns-clause-known
returns-clause-known c =
    subst (λ (s : Contents). IsSome (known_in s c.args.slot) → IsTrue c.is_some.result) c.self.view_is
    (λ some. true_or_false c.is_some.result (λ none.
    none_has_no_value (buffer_words c.self.inside.buffer c.args.slot)
    (none_of_copied (buffer_words c.self.inside.buffer c.args.slot) c.any_word.result c.any_word.ensures (sym c.is_some.ensures ∙ none))
    (is_found c.self.inside.buffer c.args.slot some)))

pub returns-clause-closure : goal.returns-clause-closure
returns-clause-closure c =
    subst (λ (s : Contents). IsTrue c.is_some.result → InClosure s.state c.args.slot) c.self.view_is
    (λ found. found_follows c.peelings_fill_the_closure.ensures.within c.mark_makes_no_difference.ensures.closure (parts_of c.self.inside)
    c.self.invariant.sound c.args.slot
    (some_of_copied (buffer_words c.self.inside.buffer c.args.slot) c.any_word.result c.any_word.ensures (sym c.is_some.ensures ∙ found)))
