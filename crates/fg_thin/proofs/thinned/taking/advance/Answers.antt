use Rattle.std.proofs.Common.{◌≡◌, ◌⊎◌, ⊎_elim, ℕ, ◌+◌, ◌*◌, true, false, Ok, List, [], ◌∷◌, ◌++◌, length, sym, ap, subst, ◌∙◌, arith}
use Rattle.std.specs.List.{flat_map}
use Rattle.fg_trace.specs.Trace.{spelling}
use Rattle.fg_encode.specs.declared.stream.StreamStep.{StreamStep}
use Rattle.fg_encode.specs.declared.stream.StreamStep.TheVariants.{Payload}
use Rattle.fg_encode.specs.Encoder.{StandsAfter}
use Rattle.fg_encode.specs.Encoding.{records_at}
use Rattle.fg_encode.specs.Reading.{ReadsLittle}
use Rattle.fg_encode.specs.StreamReader.{Walks, ending_told}
use Rattle.fg_thin.specs.Sending.{IsUnderWay, given_of}
use Rattle.fg_thin.specs.Taking.{way_stream}
use Rattle.fg_thin.specs.Thinned.{is_lost, without}
use Rattle.fg_thin.specs.ThinnedSource.{whole_stream}
use Rattle.fg_thin.proofs.TakenLemmas.{can_take, none_given, nothing_taken, payload_sent, stream_stays}
use Rattle.fg_thin.proofs.thinned.taking.advance.Goals as goal

pub send-requires-clause-stands : goal.send-requires-clause-stands
send-requires-clause-stands g c =
    let old = c.args.taking.now in
    let few = c.in_ok-next.ensures.payload (ap Ok c.in-Payload.is) in
    (old.history.payloads, (can_take old.reader c.next.new.self old.sender.encoder old.history.payloads few.0 c.requires.way.goes_on c.next.ensures.ended few.1 few.3).0)

pub send-requires-clause-limit : goal.send-requires-clause-limit
send-requires-clause-limit g c =
    let old = c.args.taking.now in
    let way = c.requires.way in
    let few = c.in_ok-next.ensures.payload (ap Ok c.in-Payload.is) in
    let can = can_take old.reader c.next.new.self old.sender.encoder old.history.payloads few.0 way.goes_on c.next.ensures.ended few.1 few.3 in
    let before : 188 * old.sender.encoder.settings.packets * old.sender.encoder.taken ≡ old.reader.place =
    ap (λ n. 188 * n * old.sender.encoder.taken) (sym way.packets) ∙ ap (λ n. 188 * old.reader.packets * n) can.0.taken ∙ sym can.1 in
    omega (arith, before, ap (λ (l : List ℕ). length l) c.payload.ensures, c.next.ensures.place, c.next.ensures.within, c.next.ensures.max, way.limit)

pub returns-in_err-next-clause-keeps : goal.returns-in_err-next-clause-keeps
returns-in_err-next-clause-keeps g c =
    let old = c.args.taking.now in
    let way = c.requires.way in
    let left = g.S.Source.left c.args.from.now in
    let none : c.next.new.self.payload ≡ [] = ⊎_elim (λ is. absurd (let a = is in cc)) (λ e. e) c.in_err-next.ensures.other in
    nothing_taken old c.next.new.self old.told old.fault left (g.S.Source.left c.next.new.from) way c.requires.open c.requires.empty
    (c.in_err-next.ensures.walks (way_stream old left) old.history.payloads way.stands) none
    c.next.ensures.packets c.next.ensures.max c.next.ensures.place c.next.ensures.ended
    (λ is. absurd (let a : true ≡ false = sym is ∙ c.requires.open in cc))
    (λ is. (c.in_err-next.ensures.kept, (way.untold c.requires.open).1))
    (record { within = c.next.ensures.within; bounded = c.next.ensures.bounded; few = c.next.ensures.few; ending = c.next.ensures.ending })
    (λ is. absurd (let a : true ≡ false = sym is ∙ c.requires.open in cc))

pub returns-in-End-clause-keeps : goal.returns-in-End-clause-keeps
returns-in-End-clause-keeps g c =
    let old = c.args.taking.now in
    let left = g.S.Source.left c.args.from.now in
    let rest = g.S.Source.left c.next.new.from in
    let walks = subst (λ (s : StreamStep). Walks (Ok s) c.next.new.self (way_stream old left) rest old.history.payloads) c.in-End.is
    (c.in_ok-next.ensures.walks (way_stream old left) old.history.payloads c.requires.way.stands) in
    let kept = subst (λ (s : StreamStep). c.next.new.self.kept ≡ ending_told (Ok s)) c.in-End.is c.in_ok-next.ensures.kept in
    let other : (Ok c.in_ok-next.field-0 ≡ Ok Payload) ⊎ (c.next.new.self.payload ≡ []) = c.in_ok-next.ensures.other in
    let none : c.next.new.self.payload ≡ [] = ⊎_elim (λ (is : Ok c.in_ok-next.field-0 ≡ Ok Payload). absurd (let a = c.in-End.is in cc)) (λ e. e) other in
    nothing_taken old c.next.new.self true c.in-End.ending left rest c.requires.way c.requires.open c.requires.empty walks.0 none
    c.next.ensures.packets c.next.ensures.max c.next.ensures.place c.next.ensures.ended
    (λ is. kept)
    (λ is. absurd (let a : true ≡ false = is in cc))
    (record { within = c.next.ensures.within; bounded = c.next.ensures.bounded; few = c.next.ensures.few; ending = c.next.ensures.ending })
    (λ is. walks.2)

pub returns-in-Payload-clause-keeps : goal.returns-in-Payload-clause-keeps
returns-in-Payload-clause-keeps g c =
    let old = c.args.taking.now in
    let way = c.requires.way in
    let payloads = old.history.payloads in
    let new = c.next.new.self in
    let after = c.send.new.self in
    let first = whole_stream payloads old.reader.held (g.S.Source.left c.args.from.now) in
    let rest = g.S.Source.left c.next.new.from in
    let stands = subst (λ (s : StreamStep). Walks (Ok s) new first rest payloads) c.in-Payload.is (c.in_ok-next.ensures.walks first payloads way.stands) in
    let few = c.in_ok-next.ensures.payload (ap Ok c.in-Payload.is) in
    let can = can_take old.reader new old.sender.encoder payloads few.0 way.goes_on c.next.ensures.ended few.1 few.3 in
    let payload = c.payload.ensures in
    let all = payloads ++ new.payload ∷ [] in
    let told = c.then-taking.ensures in
    let held = c.send.ensures.held payloads can.0 ∙ ap (λ (t : List ℕ). flat_map spelling (without (is_lost old.sender.losses) old.sender.number (records_at old.sender.encoder.settings (payloads ++ t ∷ []) (length payloads)))) payload in
    let number = c.send.ensures.number payloads can.0 ∙ ap (λ (t : List ℕ). old.sender.number + length (records_at old.sender.encoder.settings (payloads ++ t ∷ []) (length payloads))) payload in
    let goes = subst (λ (t : List ℕ). length t ≡ 188 * old.sender.encoder.settings.packets → StandsAfter after.encoder (payloads ++ t ∷ [])) payload (c.send.ensures.stands payloads can.0) in
    let last = c.in_ok-next.ensures.last (ap Ok c.in-Payload.is) in
    let little : ReadsLittle new = record { within = c.next.ensures.within; bounded = c.next.ensures.bounded; few = c.next.ensures.few; ending = c.next.ensures.ending } in
    let way' = payload_sent old.reader new old.sender after payloads old.told old.fault (g.S.Source.left c.args.from.now) rest few.0 way c.requires.open stands
    c.next.ensures.packets c.next.ensures.max c.next.ensures.place little (c.in_ok-next.ensures.kept ∙ ap (λ (s : StreamStep). ending_told (Ok s)) c.in-Payload.is)
    last can.1 few.1 few.3 held number c.send.ensures.few goes c.send.ensures.settings c.send.ensures.losses c.a_payload_more_adds_its_records.ensures.adds in
    record {
      way = subst (λ (t : List (List ℕ)). IsUnderWay new after t old.told old.fault rest) (sym told) way';
      read_out = λ is. absurd (let a : true ≡ false = sym is ∙ c.requires.open in cc);
      stream = ap (λ (t : List (List ℕ)). whole_stream t new.held rest) told ∙ stream_stays new first rest all stands;
      given = ap (λ (t : List (List ℕ)). given_of after t) told
          ∙ none_given old.sender after payloads new.payload way.number c.requires.empty held c.send.ensures.settings c.send.ensures.losses c.a_payload_more_adds_its_records.ensures.adds;
      settings = c.send.ensures.settings;
      losses = c.send.ensures.losses;
      max = c.next.ensures.max;
    }
