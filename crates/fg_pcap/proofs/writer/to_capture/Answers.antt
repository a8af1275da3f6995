use Rattle.std.proofs.Common.{◌≡◌, ◌≤◌, ◌^◌, ◌∙◌, Err, IsNone, Some, ap, refl, subst, sym}
use Rattle.std.specs.Prelude.{IsOk}
use Rattle.fg_trace.specs.Reader.{ReaderState}
use Rattle.fg_trace.proofs.Opening.{never_refused}
use Rattle.fg_pcap.specs.declared.writer.SpellingEnding.{SpellingEnding}
use Rattle.fg_pcap.specs.declared.writer.SpellingEnding.TheVariants as ending
use Rattle.fg_pcap.specs.Steps.{IsNew, IsReadTo}
use Rattle.fg_pcap.specs.ToCapture.{Spells}
use Rattle.fg_pcap.proofs.Reaching.{differs_at, failed_at}
use Rattle.fg_pcap.proofs.Writing.{comes, none_is_part, one_ending, spells_none}
use Rattle.fg_pcap.proofs.writer.to_capture.Goals as goal
use Rattle.fg_pcap.proofs.writer.to_capture.Goals.{After-start, In-Ok}

-- the limit is the reader's
max_is : (g : _) (c : After-start g) → c.start.new.self.max ≡ c.args.max
max_is g c = c.start.ensures.max ∙ ap (λ (t : ReaderState). t.max) c.in_ok-reader.ensures.new

-- the magic is read, and nothing is spelled
new : (g : _) (c : In-Ok g) → c.start.new.self.max ≡ c.args.max → IsNew (record { held = c.in_ok-held.held; number = 0 }) c.start.new.self (g.S.Source.left c.args.input.now) (g.S.Source.left c.start.new.from)
new g c max = record {
  stands = c.in-Ok.ensures.opens _ (c.in_ok-reader.ensures.opening _);
  untold = c.start.ensures.kept (subst IsOk (sym c.in-Ok.is) refl) ∙ ap (λ (t : ReaderState). t.kept) c.in_ok-reader.ensures.new;
  limit = subst (λ n. n ≤ 2 ^ 40) (sym max) c.requires.limit;
  bounded = c.start.ensures.bounded;
  held = c.in_ok-held.ensures;
  number = refl;
}

pub walk-requires : goal.walk-requires
walk-requires g c =
    let here = goal.at.walk-requires g c in
    (g.S.Source.left c.args.input.now, new g here.In-Ok (max_is g here.After-start))

pub returns-in-Ok : goal.returns-in-Ok
returns-in-Ok g c =
    let here = goal.at.returns-in-Ok g c in
    let max = max_is g here.After-start in
    let begun = new g here.In-Ok max in
    let came = comes c.one_spelling.ensures c.written_is_read_back.ensures (λ first. IsNew (record { held = c.in_ok-held.held; number = 0 }) c.start.new.self first _) c.start.new.self.max c.args.max c.walk.result _ _ _ _ max begun c.walk.ensures.whole c.walk.ensures.part in
    record {
      whole = came.whole;
      exactly = came.exactly;
      all_read = came.all_read;
      comes_back = came.comes_back;
      reads = came.reads;
      refused = never_refused _ _ _ c.start.new.self c.args.max begun.stands;
      part = came.part;
      faults = rw (c.in-Ok.ensures.faults.no_read (λ none. none)) at c.walk.ensures.faults;
    }

pub returns-in-Err-NotTrace-clause-whole : goal.returns-in-Err-NotTrace-clause-whole
returns-in-Err-NotTrace-clause-whole g c =
    let left = g.S.Source.left c.args.input.now in
    let written = g.K.Sink.written c.args.out.now in
    let opens = rw c.in-Err-NotTrace.field-0-is at (c.in-Err-NotTrace.ensures.opens left (c.in_ok-reader.ensures.opening left)) in
    subst (λ f. Spells c.args.max f left written written) (sym (ap ending.NotTrace c.in-Err-NotTrace.place-is))
    (spells_none left c.start.new.self.max c.args.max c.in-Err-NotTrace.place written (max_is g (goal.at.returns-in-Err-NotTrace-clause-whole g c).After-start) opens.1)

pub returns-in-Err-NotTrace-clause-exactly : goal.returns-in-Err-NotTrace-clause-exactly
returns-in-Err-NotTrace-clause-exactly g c = one_ending c.one_spelling.ensures c.args.max _ _ _ _ (returns-in-Err-NotTrace-clause-whole g c)

pub returns-in-Err-NotTrace-clause-reads : goal.returns-in-Err-NotTrace-clause-reads
returns-in-Err-NotTrace-clause-reads g c =
    let left = g.S.Source.left c.args.input.now in
    let unkept : IsNone c.in_ok-reader.reader.kept = subst (λ (t : ReaderState). IsNone t.kept) (sym c.in_ok-reader.ensures.new) refl in
    let opens = rw c.in-Err-NotTrace.field-0-is at (c.in-Err-NotTrace.ensures.opens left (c.in_ok-reader.ensures.opening left)) in
    subst (λ (f : SpellingEnding). IsReadTo c.args.max (Some f) left (g.S.Source.left c.start.new.from)) (sym (ap ending.NotTrace c.in-Err-NotTrace.place-is))
    (differs_at c.read_as_far_as_needed.ensures.before c.args.max c.start.new.self left _ c.in-Err-NotTrace.place (max_is g (goal.at.returns-in-Err-NotTrace-clause-reads g c).After-start) opens c.start.ensures.bounded c.start.ensures.few
    (c.start.ensures.differs unkept c.in-Err-NotTrace.place (c.in-Err-NotTrace.is ∙ ap Err c.in-Err-NotTrace.field-0-is)))

pub returns-in-Err-ReadFault-clause-part : goal.returns-in-Err-ReadFault-clause-part
returns-in-Err-ReadFault-clause-part g c = none_is_part c.args.max _ _

pub returns-in-Err-ReadFault-clause-reads : goal.returns-in-Err-ReadFault-clause-reads
returns-in-Err-ReadFault-clause-reads g c =
    let left = g.S.Source.left c.args.input.now in
    let opens = rw c.in-Err-ReadFault.field-0-is at (c.in-Err-ReadFault.ensures.opens left (c.in_ok-reader.ensures.opening left)) in
    failed_at c.read_as_far_as_needed.ensures.before c.args.max c.start.new.self left _ (max_is g (goal.at.returns-in-Err-ReadFault-clause-reads g c).After-start) opens c.start.ensures.bounded

pub unreachable-requires : goal.unreachable-requires
unreachable-requires g c = rw c.in-Err-Cut.field-0-is at (c.in-Err-Cut.ensures.opens _ (c.in_ok-reader.ensures.opening (g.S.Source.left c.args.input.now)))

pub unreachable-requires-in-Err-TooLong : goal.unreachable-requires-in-Err-TooLong
unreachable-requires-in-Err-TooLong g c = rw c.in-Err-TooLong.field-0-is at (c.in-Err-TooLong.ensures.opens _ (c.in_ok-reader.ensures.opening (g.S.Source.left c.args.input.now)))
