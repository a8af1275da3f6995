-- How the datagrams of frames are sent on.
use Rattle.std.proofs.Common.{◌≡◌, inl, inr, ℕ, Option, List, [], ◌∷◌, ◌++◌, length, sym, ap, ◌∙◌, refl, subst, append_assoc, append-nil}
use Rattle.std.specs.List.{flat_map}
use Rattle.fg_io.specs.Sent.{Sent}
use Rattle.fg_io.specs.Sink.{GainsPart}
use Rattle.fg_io.proofs.SentLemmas.{Sent-start, Sent-then, Sent-part}
use Rattle.fg_io.proofs.SinkLemmas.{GainsPart-longer}
use Rattle.fg_trace.specs.Trace.{Record, spelling, header_spelling}
use Rattle.fg_pcap.specs.Capture.{Frame}
use Rattle.fg_pcap.specs.Frame.{GivesDatagram, GivesNone}
use Rattle.fg_pcap.specs.Reading.{SendsFrames, SendsPart}

-- One frame

pub none_sent : (frame : Frame) (held : List ℕ) (written : Option (List ℕ)) → GivesNone frame.bytes → SendsFrames (frame ∷ []) held held written written
none_sent frame held written none = record {
  records = [];
  datagrams = inr (none, refl);
  sent = subst (λ t. Sent written t held written) (sym (append-nil held)) (Sent-start written held);
}

one_spelled : (held : List ℕ) (time port : ℕ) (payload : List ℕ) → (let r : Record = record { time = time; port = port; datagram = payload } in (held ++ header_spelling time port (length payload)) ++ payload ≡ held ++ flat_map spelling (r ∷ []))
one_spelled held time port payload =
    let r : Record = record { time = time; port = port; datagram = payload } in
    append_assoc held (header_spelling time port (length payload)) payload ∙ ap (λ t. held ++ t) (sym (append-nil (spelling r)))

pub one_sent : (frame : Frame) (port : ℕ) (payload held between next header : List ℕ) (first second third : Option (List ℕ)) → GivesDatagram frame.bytes port payload → header ≡ header_spelling frame.time port (length payload)
    → Sent first (held ++ header) between second → Sent second (between ++ payload) next third → SendsFrames (frame ∷ []) held next first third
one_sent frame port payload held between next header first second third gives is once again =
    let r : Record = record { time = frame.time; port = port; datagram = payload } in
    record {
      records = r ∷ [];
      datagrams = inl ([], record { port = port; payload = payload; gives = gives; first = refl }, refl);
      sent = subst (λ t. Sent first t next third) (ap (λ t. (held ++ t) ++ payload) is ∙ one_spelled held frame.time port payload)
          (Sent-then first second third (held ++ header) between payload next once again);
    }

pub header_part : (frame : Frame) (port : ℕ) (payload held header : List ℕ) (first second : Option (List ℕ)) → GivesDatagram frame.bytes port payload → header ≡ header_spelling frame.time port (length payload)
    → GainsPart first (held ++ header) second → SendsPart (frame ∷ []) held first second
header_part frame port payload held header first second gives is part =
    let r : Record = record { time = frame.time; port = port; datagram = payload } in
    record {
      records = r ∷ [];
      datagrams = inl ([], record { port = port; payload = payload; gives = gives; first = refl }, refl);
      part = subst (λ t. GainsPart first t second) (ap (λ t. (held ++ t) ++ payload) is ∙ one_spelled held frame.time port payload)
          (GainsPart-longer first second (held ++ header) payload part);
    }

pub payload_part : (frame : Frame) (port : ℕ) (payload held between header : List ℕ) (first second third : Option (List ℕ)) → GivesDatagram frame.bytes port payload → header ≡ header_spelling frame.time port (length payload)
    → Sent first (held ++ header) between second → GainsPart second (between ++ payload) third → SendsPart (frame ∷ []) held first third
payload_part frame port payload held between header first second third gives is once again =
    let r : Record = record { time = frame.time; port = port; datagram = payload } in
    record {
      records = r ∷ [];
      datagrams = inl ([], record { port = port; payload = payload; gives = gives; first = refl }, refl);
      part = subst (λ t. GainsPart first t third) (ap (λ t. (held ++ t) ++ payload) is ∙ one_spelled held frame.time port payload)
          (Sent-part first second third (held ++ header) between payload once again);
    }
