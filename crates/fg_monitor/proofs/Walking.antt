-- How a stream is walked.
use Rattle.std.proofs.Common.{◌≡◌, ◌⊎◌, inl, ⊎_elim, ℕ, ◌+◌, ◌*◌, ◌<◌, ◌≤◌, ◌^◌, true, Option, None, Some, IfSome, IfOk, OnErr, Result, List, [], ◌∷◌, ◌++◌, length, take, drop, refl, sym, ap, ◌∙◌, subst, arith}
use Rattle.std.specs.List.{flat_map}
use Rattle.std.specs.Io.KnownBytes.{IsAtEnd}
use Rattle.std.proofs.lemmas.Bool.{cases_lt}
use Rattle.std.proofs.lemmas.List.{length-take, take-append-drop}
use Rattle.std.proofs.lemmas.List.FromFn.{take-map-range_with_len}
use Rattle.fg_io.specs.InputBuffer.{InputState, IsAhead, TakesMore, most_held, new_input}
use Rattle.fg_io.specs.declared.input_buffer.Ahead.{Ahead}
use Rattle.fg_io.specs.declared.fault.Fault.{Fault}
use Rattle.fg_io.specs.Sink.{Gains, GainsPart}
use Rattle.fg_io.proofs.SentLemmas.{Sent-end, Sent-part}
use Rattle.fg_encode.specs.Reading.{ReadsAsFar, ReadsLittle}
use Rattle.fg_encode.specs.Stream.{payload_of, AreFirst, IsCut, OneCut, StreamEnding}
use Rattle.fg_encode.specs.StreamReader.{StreamState, EndsHere, StandsAfter}
use Rattle.fg_encode.specs.StreamSteps.{Accepts, TakesIn, after_payload}
use Rattle.fg_encode.proofs.CutLemmas.{refused}
use Rattle.fg_encode.proofs.ReadLemmas.{any_ending_to, read_so_far}
use Rattle.fg_encode.proofs.StreamViews.{holds}
use Rattle.fg_encode.proofs.StreamWalks.{after_taking, placed_here, walks_ending, walks_payload}
use Rattle.fg_monitor.specs.declared.lines.Lines.{Lines}
use Rattle.fg_monitor.specs.declared.walk.Monitoring.{Monitoring}
use Rattle.fg_monitor.specs.Kept.{MonitorState, HasSeen}
use Rattle.fg_monitor.specs.Laws.{OneText}
use Rattle.fg_monitor.specs.Monitored.{MonitorsPart}
use Rattle.fg_monitor.specs.Steps.{Breaks, HasMonitored, HasTold, HasWalked, IsBuffer, IsNew, reader_of}
use Rattle.fg_monitor.specs.Text.{IsText, closing, line_if}
use Rattle.fg_monitor.proofs.Telling.{HasPart, nothing_told}

-- Reading

-- a buffer was filled
pub filled : (input now : InputState) (first left rest : Option (List ℕ)) (packets : List (List ℕ))
    → (let more : InputState = record input { held = now.held; ended = now.ended } in now ≡ more)
    → TakesMore input.held left now.held rest
    → (input.ended ≡ true → (now ≡ input) × (rest ≡ left))
    → (now.ended ≡ true → (input.ended ≡ true) ⊎ IsAtEnd rest)
    → StandsAfter (reader_of input) first left packets → StandsAfter (reader_of now) first rest packets
filled input now first left rest packets same takes stays at_end h =
    let more : TakesIn (reader_of input) left (reader_of now) rest = record {
      same = ap (λ (t : InputState). reader_of t) same;
      takes = takes;
      stays = λ over. let k = stays over in (ap (λ (t : InputState). t.ended) k.0 ∙ over, ap (λ (t : InputState). t.held) k.0, k.1);
      at_end = at_end;
    } in
    after_taking (reader_of input) (reader_of now) first left rest packets h more

pub still_buffer : (input now : InputState) → (let more : InputState = record input { held = now.held; ended = now.ended } in now ≡ more) → IsBuffer input → IsBuffer now
still_buffer input now same h = subst IsBuffer (sym same) (record { longest = h.longest; small = h.small; limit = h.limit; within = h.within })

reads_little : (input : InputState) → IsBuffer input → input.place + length input.held ≤ input.max + 1 → length input.held ≤ most_held input.longest input.piece → ReadsLittle (reader_of input)
reads_little input h bounded few = record {
  within = h.within;
  bounded = bounded;
  few = let longest = h.longest in let small = h.small in omega arith;
  ending = tt;
}

-- Packets

pub few_fed : (input : InputState) (monitor : MonitorState) (first now : Option (List ℕ)) (packets : List (List ℕ))
    → IsBuffer input → 1 ≤ length input.held → StandsAfter (reader_of input) first now packets → HasSeen monitor packets → monitor.fed < 2 ^ 40
few_fed input monitor first now packets h some stands seen =
    let there : input.place ≡ 188 * 1 * length packets = placed_here (reader_of input) (length packets) stands.placed some in
    let fed = seen.fed in
    let within = h.within in
    let limit = h.limit in
    omega arith

-- a packet was taken
pub stepped : (ahead : Ahead) (input now : InputState) (first rest : Option (List ℕ)) (packets : List (List ℕ)) (packet : List ℕ)
    → IsAhead ahead input 188 → Accepts (reader_of input) → 188 ≤ length input.held → packet ≡ take 188 input.held
    → (let next : InputState = record input { place = input.place + 188; held = drop 188 input.held } in now ≡ next)
    → StandsAfter (reader_of input) first rest packets → StandsAfter (reader_of now) first rest (packets ++ packet ∷ [])
stepped ahead input now first rest packets packet is accepts whole taken step h =
    let reader = reader_of input in
    let more = walks_payload reader (after_payload reader) first rest packets h refl (holds ahead input 1 None is) accepts refl in
    let bare : StandsAfter (record (after_payload reader) { payload = [] }) first rest (packets ++ take 188 input.held ∷ []) =
    record { cut = more.cut; placed = more.placed; given = more.given; at_end = more.at_end; ending = more.ending } in
    let long : length (take 188 input.held) ≡ 188 = omega (arith, length-take 188 input.held) in
    let at : ℕ → InputState = λ place. record input { place = place; held = drop 188 input.held } in
    subst (λ (p : List ℕ). StandsAfter (reader_of now) first rest (packets ++ p ∷ [])) (sym taken)
    (subst (λ (t : InputState). StandsAfter (reader_of t) first rest (packets ++ take 188 input.held ∷ [])) (sym step)
    (subst (λ n. StandsAfter (reader_of (at (input.place + n))) first rest (packets ++ take 188 input.held ∷ [])) long bare))

pub stepped_buffer : (input now : InputState) → (let next : InputState = record input { place = input.place + 188; held = drop 188 input.held } in now ≡ next)
    → input.place + 188 ≤ input.max → IsBuffer input → IsBuffer now
stepped_buffer input now step within h =
    let next : InputState = record input { place = input.place + 188; held = drop 188 input.held } in
    let buffer : IsBuffer next = record { longest = h.longest; small = h.small; limit = h.limit; within = within } in
    subst IsBuffer (sym step) buffer

-- Parts

-- the first packets of a stream are the front of all
first_of_all : (max : ℕ) (bytes : List ℕ) (packets all : List (List ℕ)) (end : StreamEnding) → AreFirst 1 max bytes packets → IsCut 1 max bytes all end
    → all ≡ packets ++ drop (length packets) all
first_of_all max bytes packets all end h k =
    let few : length packets ≤ length all = ⊎_elim
    (λ (more : length all < length packets). absurd (refused end 1 max bytes (length all) k.ends (h.acceptable (length all) more)))
    (λ (few : length packets ≤ length all). few)
    (cases_lt (length all) (length packets)) in
    let front : take (length packets) all ≡ packets =
    ap (take (length packets)) k.first.cut ∙ take-map-range_with_len (payload_of 1 bytes) 0 (length all) (length packets) few ∙ sym h.cut in
    sym (take-append-drop (length packets) all) ∙ ap (λ (t : List (List ℕ)). t ++ drop (length packets) all) front

part_of_all : (max : ℕ) (first : Option (List ℕ)) (packets : List (List ℕ)) (before after : Option (List ℕ))
    → IfSome first (λ bytes. AreFirst 1 max bytes packets) → HasPart packets before after → MonitorsPart max first before after
part_of_all max None packets before after h part = tt
part_of_all max (Some bytes) packets before after h part = λ all ending text cut is.
    let split = first_of_all max bytes packets all ending h cut in
    part (drop (length packets) all) ending text (subst (λ (l : List (List ℕ)). IsText l ending text) split is)

-- a fault of the reading, or one where the lines of some packets are written
pub breaks_at : ReadsAsFar → (input : InputState) (max : ℕ) (first rest before after : Option (List ℕ)) (packets told : List (List ℕ))
    → input.max ≡ max → IsBuffer input → input.place + length input.held ≤ input.max + 1 → length input.held ≤ most_held input.longest input.piece
    → StandsAfter (reader_of input) first rest packets
    → IfSome first (λ bytes. AreFirst 1 input.max bytes told) → HasPart told before after
    → Breaks max first rest before after
breaks_at law input max first rest before after packets told same h bounded few stands firsts part = (
  subst (λ n. MonitorsPart n first before after) same (part_of_all input.max first told before after firsts part),
  read_so_far law (reader_of input) first rest packets max same stands (reads_little input h bounded few),
)

-- Endings

pub ended_here : ReadsAsFar → (ahead : Ahead) (monitoring : Monitoring) (input : InputState) (first rest before after : Option (List ℕ)) (ending : StreamEnding) (packets : List (List ℕ))
    → IsAhead ahead input 188 → IsBuffer input → input.place + length input.held ≤ input.max + 1 → length input.held ≤ most_held input.longest input.piece
    → EndsHere ending 1 input.max input.place input.held input.ended
    → StandsAfter (reader_of input) first rest packets → HasSeen monitoring.monitor packets → HasTold packets monitoring.lines before after
    → HasWalked monitoring input ending first rest before after
ended_here law ahead monitoring input first rest before after ending packets is h bounded few here stands seen told =
    let reader = reader_of input in
    let kept : StreamState = record reader { kept = Some ending } in
    let ends = walks_ending reader kept first rest packets ending stands (holds ahead input 1 None is) h.within here refl in
    let little = reads_little input h bounded few in
    record {
      packets = packets;
      of_input = ends.1;
      read = read_so_far law kept first rest packets input.max refl ends.0 (record { within = little.within; bounded = little.bounded; few = little.few; ending = here });
      at_end = ends.2;
      seen = seen;
      told = told;
    }

-- The whole

pub begun : (max : ℕ) (first : Option (List ℕ)) → StandsAfter (reader_of (new_input max 188 65536)) first first []
begun max None = record {
  cut = tt;
  placed = inl refl;
  given = refl;
  at_end = λ over. absurd (let no = over in cc);
  ending = tt;
}
begun max (Some bytes) = record {
  cut = record { cut = refl; acceptable = λ i none. absurd (omega arith) };
  placed = inl refl;
  given = refl;
  at_end = λ over. absurd (let no = over in cc);
  ending = tt;
}

pub new_here : (monitoring : Monitoring) (input : InputState) (first : Option (List ℕ)) (max : ℕ) → max ≤ 2 ^ 40 → input ≡ new_input max 188 65536 → HasSeen monitoring.monitor [] → monitoring.lines.held ≡ [] → monitoring.lines.faults ≡ 0
    → IsNew monitoring input first first
new_here monitoring input first max limit new seen held faults = λ written.
    let buffer : IsBuffer (new_input max 188 65536) = record { longest = refl; small = omega arith; limit = limit; within = omega arith } in
    record {
      packets = [];
      stands = subst (λ (t : InputState). StandsAfter (reader_of t) first first []) (sym new) (begun max first);
      buffer = subst IsBuffer (sym new) buffer;
      seen = seen;
      told = nothing_told monitoring.lines written held faults;
    }

whole_text : (packets : List (List ℕ)) (ending : StreamEnding) (lines : Lines) (before at : Option (List ℕ)) (fed : ℕ) → fed ≡ length packets → (h : HasTold packets lines before at)
    → IsText packets ending (flat_map line_if h.told ++ closing ending fed lines.faults)
whole_text packets ending lines before at fed same h = record {
  told = h.told;
  are = h.are;
  text_is = ap (λ n. flat_map line_if h.told ++ closing ending n lines.faults) same ∙ ap (λ n. flat_map line_if h.told ++ closing ending (length packets) n) h.count;
}

pub monitored : (monitoring : Monitoring) (input : InputState) (ending : StreamEnding) (first now before at after : Option (List ℕ)) (fed : ℕ) → fed ≡ monitoring.monitor.fed
    → HasWalked monitoring input ending first now before at → Gains at (monitoring.lines.held ++ closing ending fed monitoring.lines.faults) after → HasMonitored input.max ending first now before after
monitored monitoring input ending first now before at after fed count h gained = record {
  monitors = record {
    packets = h.packets;
    text = flat_map line_if h.told.told ++ closing ending fed monitoring.lines.faults;
    of_input = h.of_input;
    is_text = whole_text h.packets ending monitoring.lines before at fed (count ∙ h.seen.fed) h.told;
    gained = Sent-end before at after (flat_map line_if h.told.told) monitoring.lines.held (closing ending fed monitoring.lines.faults) h.told.sent gained;
  };
  read = h.read;
  at_end = h.at_end;
}

monitors_part : OneCut → OneText → (monitoring : Monitoring) (input : InputState) (ending : StreamEnding) (first now before at after : Option (List ℕ)) (fed : ℕ) → fed ≡ monitoring.monitor.fed
    → HasWalked monitoring input ending first now before at → GainsPart at (monitoring.lines.held ++ closing ending fed monitoring.lines.faults) after → MonitorsPart input.max first before after
monitors_part cut one monitoring input ending None now before at after fed count h part = tt
monitors_part cut one monitoring input ending (Some bytes) now before at after fed count h part = λ packets end text is_cut is.
    let both = cut 1 input.max bytes packets h.packets end ending is_cut h.of_input in
    let moved : IsText h.packets ending text = subst (λ (e : StreamEnding). IsText h.packets e text) both.1 (subst (λ (l : List (List ℕ)). IsText l end text) both.0 is) in
    let texts = one h.packets ending _ text (whole_text h.packets ending monitoring.lines before at fed (count ∙ h.seen.fed) h.told) moved in
    subst (λ (t : List ℕ). GainsPart before t after) texts
    (Sent-part before at after (flat_map line_if h.told.told) monitoring.lines.held (closing ending fed monitoring.lines.faults) h.told.sent part)

pub breaks_at_end : OneCut → OneText → (monitoring : Monitoring) (input : InputState) (ending : StreamEnding) (first now before at after : Option (List ℕ)) (fed : ℕ) → fed ≡ monitoring.monitor.fed
    → HasWalked monitoring input ending first now before at → GainsPart at (monitoring.lines.held ++ closing ending fed monitoring.lines.faults) after → Breaks input.max first now before after
breaks_at_end cut one monitoring input ending first now before at after fed count h part = (
  monitors_part cut one monitoring input ending first now before at after fed count h part,
  any_ending_to input.max (Some ending) first now h.read,
)

-- Under the limit that the buffer was made with

pub monitored_at : (found max : ℕ) (came : Result StreamEnding Fault) (first now before after : Option (List ℕ)) → found ≡ max
    → IfOk came (λ ending. HasMonitored found ending first now before after) → IfOk came (λ ending. HasMonitored max ending first now before after)
monitored_at found max came first now before after same h = subst (λ n. IfOk came (λ ending. HasMonitored n ending first now before after)) same h

pub breaks_as : (found max : ℕ) (came : Result StreamEnding Fault) (first now before after : Option (List ℕ)) → found ≡ max
    → OnErr came (Breaks found first now before after) → OnErr came (Breaks max first now before after)
breaks_as found max came first now before after same h = subst (λ n. OnErr came (Breaks n first now before after)) same h
