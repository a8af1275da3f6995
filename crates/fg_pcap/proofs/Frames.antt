-- Frames give at most one datagram.
use Rattle.std.proofs.Common.{◌≡◌, inl, inr, ℕ, Option, None, Some, IfNone, List, [], ◌∷◌, drop, get_or, sym, ap, ◌∙◌, subst, arith}
use Rattle.fg_pcap.specs.Frame.{CarriesIpv4, HoldsDatagram, GivesDatagram, GivesNone}

-- two bytes are not two others
other_type : (bytes : List ℕ) → bytes ≡ 0x08 ∷ 0x00 ∷ [] → bytes ≡ 0x81 ∷ 0x00 ∷ [] → ⊥
other_type bytes h k =
    let e : 0x08 ∷ 0x00 ∷ [] ≡ 0x81 ∷ 0x00 ∷ [] = sym h ∙ k in
    let first : 0x08 ≡ 0x81 = ap (λ (t : List ℕ). get_or t 0 0) e in
    omega (arith, first)

-- the packet stands at one place
pub one_place : (frame : List ℕ) (m n : ℕ) → CarriesIpv4 frame m → CarriesIpv4 frame n → m ≡ n
one_place frame m n (inl h) (inl k) = h.0 ∙ sym k.0
one_place frame m n (inl h) (inr k) = absurd (other_type _ h.1 k.1)
one_place frame m n (inr h) (inl k) = absurd (other_type _ k.1 h.1)
one_place frame m n (inr h) (inr k) = h.0 ∙ sym k.0

-- a frame whose packet holds no datagram gives none
pub gives_none : (frame packet : List ℕ) (place : ℕ) → CarriesIpv4 frame place → packet ≡ drop place frame → ((port : ℕ) (payload : List ℕ) → ¬ HoldsDatagram packet port payload) → GivesNone frame
gives_none frame packet place carries is none = λ port payload g.
    let same : packet ≡ drop g.place frame = is ∙ ap (λ n. drop n frame) (one_place frame place g.place carries g.carries) in
    none port payload (subst (λ t. HoldsDatagram t port payload) (sym same) g.holds)

pub if_none : {A : Type 0} (found : Option A) (P Q : Type 0) → (P → Q) → IfNone found P → IfNone found Q
if_none None P Q f h = f h
if_none (Some x) P Q f h = h

-- a packet holds one datagram
one_held : (packet : List ℕ) (port port' : ℕ) (payload payload' : List ℕ) → HoldsDatagram packet port payload → HoldsDatagram packet port' payload' → (port ≡ port') × (payload ≡ payload')
one_held packet port port' payload payload' h k = (h.port_is ∙ sym k.port_is, h.payload_is ∙ sym k.payload_is)

-- a frame gives one datagram
pub one_datagram : (frame : List ℕ) (port port' : ℕ) (payload payload' : List ℕ) → GivesDatagram frame port payload → GivesDatagram frame port' payload' → (port ≡ port') × (payload ≡ payload')
one_datagram frame port port' payload payload' h k =
    let place : h.place ≡ k.place = one_place frame h.place k.place h.carries k.carries in
    one_held (drop k.place frame) port port' payload payload' (subst (λ n. HoldsDatagram (drop n frame) port payload) place h.holds) k.holds
