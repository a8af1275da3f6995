-- What the next packet says of the stream.
use Rattle.std.proofs.Common.{◌≡◌, ℕ, ◌+◌, ◌*◌, ◌/◌, ◌≤◌, Some, List, length, take, get_or, sym, ap, ◌∙◌, subst, arith}
use Rattle.std.proofs.lemmas.List.{length-take, get_or-take}
use Rattle.fg_io.specs.declared.input_buffer.Ahead.TheVariants.{Whole}
use Rattle.fg_io.specs.InputBuffer.{InputState, IsAhead}
use Rattle.fg_ts.specs.declared.TsFault.TheVariants.{NoSync}
use Rattle.fg_ts.specs.Packets.{ArePackets}
use Rattle.fg_encode.specs.declared.stream.StreamFault.TheVariants.{NotTransport}
use Rattle.fg_encode.specs.StreamReader.{EndsHere}
use Rattle.fg_encode.specs.StreamSteps.{Accepts}
use Rattle.fg_monitor.specs.Steps.{reader_of}

long : (held : List ℕ) → 188 ≤ length held → length (take 188 held) ≡ 188
long held whole = omega (arith, length-take 188 held)

front : (held : List ℕ) → get_or (take 188 held) 0 0 ≡ get_or held 0 0
front held = get_or-take 188 held 0 0 (omega arith)

one_packet : (held : List ℕ) → 188 ≤ length held → get_or held 0 0 ≡ 0x47 → ArePackets (take 188 held) 1
one_packet held whole synced = record {
  whole = long held whole;
  synced = λ number first. let none : 0 ≡ number = omega arith in subst (λ n. get_or (take 188 held) (188 * n) 0 ≡ 0x47) none (front held ∙ synced);
}

pub packet_here : (input : InputState) → IsAhead Whole input 188 → get_or input.held 0 0 ≡ 0x47 → Accepts (reader_of input)
packet_here input is synced = record {
  within = omega (arith, long input.held is.0, is.1);
  count = 1;
  least = omega arith;
  most = omega arith;
  whole = one_packet input.held is.0 synced;
}

pub unsynced_here : (input : InputState) (number : ℕ) → IsAhead Whole input 188 → ¬ (get_or input.held 0 0 ≡ 0x47) → number ≡ input.place / 188
    → EndsHere (Some (NotTransport (NoSync number))) 1 input.max input.place input.held input.ended
unsynced_here input number is unsynced here = (
  omega (arith, long input.held is.0, is.1),
  (
    0,
    omega (arith, here),
    (
      (1, long input.held is.0),
      record {
        within = omega (arith, long input.held is.0);
        unsynced = λ synced. unsynced (sym (front input.held) ∙ synced);
        first = λ other none. absurd (omega arith);
      },
    ),
  ),
)

-- a whole packet begins with the sync byte
pub synced_here : (input : InputState) (packet : List ℕ) → Accepts (reader_of input) → packet ≡ take 188 input.held → get_or packet 0 0 ≡ 0x47
synced_here input packet k is =
    ap (λ (t : List ℕ). get_or t 0 0) is ∙ k.whole.synced 0 (let least = k.least in omega arith)

-- and is held whole
pub whole_here : (input : InputState) → Accepts (reader_of input) → 188 ≤ length input.held
whole_here input k = let least = k.least in let whole = k.whole.whole in omega (arith, whole, least, length-take 188 input.held)

pub within_here : (input : InputState) → Accepts (reader_of input) → input.place + 188 ≤ input.max
within_here input k = let within = k.within in omega (arith, within, long input.held (whole_here input k))
