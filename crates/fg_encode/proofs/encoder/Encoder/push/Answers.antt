use Rattle.std.proofs.Common.{◌≡◌, ℕ, ◌+◌, ◌*◌, ◌%◌, ◌≤◌, IsTrue, List, [], ◌∷◌, ◌++◌, length, map, get_or, refl, ap, subst, sym, ◌∙◌, arith}
use Rattle.std.proofs.lemmas.List.{take_at}
use Rattle.std.specs.Vec.{with_items}
use Rattle.fg_words.specs.Word.{transport_word}
use Rattle.fg_shape.specs.declared.kind.Kind.TheVariants.{Column}
use Rattle.fg_shape.specs.Kind.{port_of}
use Rattle.fg_trace.specs.Trace.{Record}
use Rattle.fg_fechead.specs.declared.Parity.{Parity}
use Rattle.fg_fechead.specs.ParityDatagram.{parity_bytes, CanBeWritten}
use Rattle.fg_encode.specs.Encoder.{ColumnsAreUnderWay, EncoderState, RowIsUnderWay, StandsAfter}
use Rattle.fg_encode.specs.Encoding.{records_at, word_at}
use Rattle.fg_encode.specs.Ends.{columns_ending}
use Rattle.fg_encode.proofs.TakingLemmas.{batch_is, column_can, columns_after, row_after, row_can, stands_after, with}
use Rattle.fg_encode.proofs.encoder.Encoder.push.Goals.{After-add_to_lines}
use Rattle.fg_encode.proofs.encoder.Encoder.push.Goals as goal

-- The encoder before the payload.
abbrev before : After-add_to_lines → EncoderState
before c =
    let inside = c.self.inside in
    record { settings = inside.settings; taken = inside.taken; columns = inside.columns.items; row = inside.row; columns_sent = inside.columns_sent; rows_sent = inside.rows_sent }

-- What stands once the payload is added to its column and its row.
record HasAdded (c : After-add_to_lines) (payloads : List (List ℕ)) : Type 0 where
  pub stands : StandsAfter (before c) payloads
  pub most : length c.args.payload.now ≤ 188 * c.self.inside.settings.packets
  pub here : c.next_moment-at.result.slot ≡ length payloads
  pub under : ColumnsAreUnderWay c.self.inside.settings (word_at c.self.inside.settings (with payloads c.args.payload.now)) (length payloads + 1) c.add_to_lines.new.columns
  pub rowed : IsTrue c.self.inside.settings.layout.rows → RowIsUnderWay c.self.inside.settings (word_at c.self.inside.settings (with payloads c.args.payload.now)) (length payloads + 1) c.add_to_lines.new.row

added : (c : After-add_to_lines) (payloads : List (List ℕ)) → StandsAfter c.args.self.now payloads → HasAdded c payloads
added c payloads given =
    let payload = c.args.payload.now in
    let slot = c.next_moment-at.result.slot in
    let ts = c.next_moment-at.result.ts in
    let stands : StandsAfter (before c) payloads = subst (λ (x : EncoderState). StandsAfter x payloads) (sym c.self.view_is) given in
    let few = c.requires.packets in
    let most : length payload ≤ 188 * c.self.inside.settings.packets = omega (arith, few.2, few.3.whole, ap (λ (x : EncoderState). x.settings.packets) c.self.view_is) in
    let here : slot ≡ length payloads = c.next_moment-at.ensures.slot ∙ stands.taken in
    record {
      stands = stands;
      most = most;
      here = here;
      under = columns_after (before c) payloads payload ts slot (transport_word ts payload) c.add_to_lines.new.columns stands most here c.next_moment-at.ensures.timestamp refl
          (λ words w room was. c.add_to_lines.ensures.columns words w room (subst (λ (l : List Parity). ColumnsAreUnderWay c.self.inside.settings words slot l) (sym c.deref_mut.ensures.value) was));
      rowed = row_after (before c) payloads payload ts slot (transport_word ts payload) c.add_to_lines.new.row stands most here c.next_moment-at.ensures.timestamp refl c.add_to_lines.ensures.row;
    }

pub send_column-self-inside-requires-clause-can : goal.send_column-self-inside-requires-clause-can
send_column-self-inside-requires-clause-can c base d ends =
    let at = (goal.at.send_column-self-inside-requires-clause-can c).After-add_to_lines in
    let has = added at c.requires.stands.0 c.requires.stands.1 in
    let columns = c.add_to_lines.new.columns in
    let kept : c.deref.result.now ≡ columns = c.deref.ensures.value ∙ take_at columns _ _ (omega (arith, c.add_to_lines.auto.columns, c.deref_mut.ensures.len)) in
    subst (λ (l : List Parity). CanBeWritten (get_or l (c.next_moment-at.result.slot % c.self.inside.settings.layout.l) d) (188 * c.self.inside.settings.packets)) (sym kept)
    (column_can (before at) c.requires.stands.0 c.args.payload.now c.next_moment-at.result.slot base columns d has.stands has.most has.here has.under ends)

pub send_row-self-inside-requires-clause-can : goal.send_row-self-inside-requires-clause-can
send_row-self-inside-requires-clause-can c base ends =
    let at = (goal.at.send_row-self-inside-requires-clause-can c).After-add_to_lines in
    let has = added at c.requires.stands.0 c.requires.stands.1 in
    row_can (before at) c.requires.stands.0 c.args.payload.now c.next_moment-at.result.slot base c.add_to_lines.new.row has.stands has.most has.here has.rowed ends

pub returns-clause-batch : goal.returns-clause-batch
returns-clause-batch c payloads given =
    let at = (goal.at.returns-clause-batch c).After-add_to_lines in
    let has = added at payloads given in
    let inside = c.self.inside in
    let payload = c.args.payload.now in
    let slot = c.next_moment-at.result.slot in
    let time = c.next_moment-at.result.time in
    let ts = c.next_moment-at.result.ts in
    let columns = c.add_to_lines.new.columns in
    let kept : c.deref.result.now ≡ columns = c.deref.ensures.value ∙ take_at columns _ _ (omega (arith, c.add_to_lines.auto.columns, c.deref_mut.ensures.len)) in
    let d = inside.row in
    let second = subst
    (λ (l : List Parity). c.send_column-self-inside.new.into ≡ c.put_media.new.self ++ map
    (λ (base : ℕ). (let r : Record = record { time = time; port = port_of inside.settings.port Column; datagram = parity_bytes inside.columns_sent ts (get_or l (slot % inside.settings.layout.l) d) (188 * inside.settings.packets) } in r)) (columns_ending inside.settings.layout slot))
    kept (c.send_column-self-inside.ensures.batch d) in
    batch_is (before at) payloads payload slot time ts c.sequence_at-seq.result (transport_word ts payload) columns c.add_to_lines.new.row d c.put_media.new.self c.send_column-self-inside.new.into c.send_row-self-inside.new.into
    has.stands has.most has.here c.next_moment-at.ensures.time c.next_moment-at.ensures.timestamp c.sequence_at-seq.ensures refl c.put_media.ensures second c.send_row-self-inside.ensures.batch has.under has.rowed
    ∙ ap (λ (x : EncoderState). records_at x.settings (payloads ++ payload ∷ []) (length payloads)) c.self.view_is

pub returns-clause-stands : goal.returns-clause-stands
returns-clause-stands c payloads given whole =
    let at = (goal.at.returns-clause-stands c).After-add_to_lines in
    let has = added at payloads given in
    let inside = c.self.inside in
    let payload = c.args.payload.now in
    let columns = c.add_to_lines.new.columns in
    let full : length payload ≡ 188 * inside.settings.packets = omega (arith, whole, ap (λ (x : EncoderState). x.settings.packets) c.self.view_is) in
    let after : List Parity → EncoderState = λ l. record { settings = inside.settings; taken = inside.taken + 1; columns = l; row = c.add_to_lines.new.row; columns_sent = c.send_column-self-inside.result; rows_sent = c.send_row-self-inside.result } in
    let width : length columns ≡ inside.settings.layout.l = omega (arith, c.add_to_lines.auto.columns, c.deref_mut.ensures.len, ap (λ (l : List Parity). length l) c.deref_mut.ensures.value, has.stands.width) in
    let items : (with_items inside.columns columns).items ≡ columns = take_at columns _ _ (omega (arith, c.add_to_lines.auto.columns, c.deref_mut.ensures.len)) in
    subst (λ (l : List Parity). StandsAfter (after l) (payloads ++ payload ∷ [])) (sym items)
    (stands_after (before at) (after columns) payloads payload c.next_moment-at.result.slot has.stands full has.here refl width c.send_column-self-inside.ensures.sent c.send_row-self-inside.ensures.sent has.under has.rowed)
