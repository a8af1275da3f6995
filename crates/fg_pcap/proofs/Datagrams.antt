-- The datagrams of frames, one after another.
use Rattle.std.proofs.Common.{◌≡◌, inl, inr, ℕ, List, [], ◌∷◌, ◌++◌, sym, ap, ◌∙◌, subst}
use Rattle.fg_trace.specs.Trace.{Record}
use Rattle.fg_pcap.specs.Capture.{Frame}
use Rattle.fg_pcap.specs.Frame.{Gives, IsDatagramsOf}
use Rattle.fg_pcap.proofs.Frames.{one_datagram}

pub gives_more : (frame : Frame) (records others more : List Record) → Gives frame records others → Gives frame (records ++ more) (others ++ more)
gives_more frame records others more h = record { port = h.port; payload = h.payload; gives = h.gives; first = ap (λ t. t ++ more) h.first }

-- of frames and more frames
pub datagrams_more : (frames more : List Frame) (records others : List Record) → IsDatagramsOf frames records → IsDatagramsOf more others → IsDatagramsOf (frames ++ more) (records ++ others)
datagrams_more [] more records others h k = subst (λ (t : List Record). IsDatagramsOf more (t ++ others)) (sym h) k
datagrams_more (frame ∷ frames) more records others (inl h) k = inl (h.0 ++ others, gives_more frame records h.0 others h.1, datagrams_more frames more h.0 others h.2 k)
datagrams_more (frame ∷ frames) more records others (inr h) k = inr (h.0, datagrams_more frames more records others h.1 k)

abbrev pub timed : ℕ → ℕ → List ℕ → List Record → List Record
timed time port payload others = record { time = time; port = port; datagram = payload } ∷ others

-- what a frame gives is the first of what both say
pub one_gives : (frame : Frame) (records others all more : List Record) → Gives frame records others → Gives frame all more → (t : Record) × (records ≡ t ∷ others) × (all ≡ t ∷ more)
one_gives frame records others all more h k =
    let same = one_datagram frame.bytes h.port k.port h.payload k.payload h.gives k.gives in
    let r : Record = record { time = frame.time; port = h.port; datagram = h.payload } in
    (r, h.first, k.first ∙ ap (λ n. timed frame.time n k.payload more) (sym same.0) ∙ ap (λ b. timed frame.time h.port b more) (sym same.1))

-- the datagrams of the first frames begin those of all
pub datagrams_front : (frames more : List Frame) (records all : List Record) → IsDatagramsOf frames records → IsDatagramsOf (frames ++ more) all → (others : List Record) × (all ≡ records ++ others)
datagrams_front [] more records all h k = (all, ap (λ t. t ++ all) (sym h))
datagrams_front (frame ∷ frames) more records all (inl h) (inl k) =
    let one = one_gives frame records h.0 all k.0 h.1 k.1 in
    let rest = datagrams_front frames more h.0 k.0 h.2 k.2 in
    (rest.0, one.2 ∙ ap (λ t. one.0 ∷ t) rest.1 ∙ ap (λ t. t ++ rest.0) (sym one.1))
datagrams_front (frame ∷ frames) more records all (inl h) (inr k) = absurd (k.0 h.1.port h.1.payload h.1.gives)
datagrams_front (frame ∷ frames) more records all (inr h) (inl k) = absurd (h.0 k.1.port k.1.payload k.1.gives)
datagrams_front (frame ∷ frames) more records all (inr h) (inr k) = datagrams_front frames more records all h.1 k.1

-- frames have one list of datagrams
pub one_list : (frames : List Frame) (records all : List Record) → IsDatagramsOf frames records → IsDatagramsOf frames all → records ≡ all
one_list [] records all h k = h ∙ sym k
one_list (frame ∷ frames) records all (inl h) (inl k) =
    let one = one_gives frame records h.0 all k.0 h.1 k.1 in
    one.1 ∙ ap (λ t. one.0 ∷ t) (one_list frames h.0 k.0 h.2 k.2) ∙ sym one.2
one_list (frame ∷ frames) records all (inl h) (inr k) = absurd (k.0 h.1.port h.1.payload h.1.gives)
one_list (frame ∷ frames) records all (inr h) (inl k) = absurd (h.0 k.1.port k.1.payload k.1.gives)
one_list (frame ∷ frames) records all (inr h) (inr k) = one_list frames records all h.1 k.1
