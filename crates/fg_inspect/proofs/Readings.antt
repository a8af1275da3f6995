-- A datagram on a port is read in one way.
use Rattle.std.proofs.Common.{◌≡◌, ◌⊎◌, inl, inr, ℕ, List, [], ◌∷◌, refl, sym, ap, ◌∙◌, subst}
use Rattle.fg_rtp.specs.declared.media.MediaFault.{MediaFault}
use Rattle.fg_rtp.specs.declared.media.MediaFault.TheVariants as media
use Rattle.fg_rtp.specs.Laws as rtp
use Rattle.fg_rtp.specs.MediaDatagram as media_datagram
use Rattle.fg_rtp.specs.MediaDatagram.{FirstFault as FirstMediaFault}
use Rattle.fg_fechead.specs.declared.FecFault.{FecFault}
use Rattle.fg_fechead.specs.declared.FecFault.TheVariants as fec
use Rattle.fg_fechead.specs.declared.Parity.{Parity as ParityRead}
use Rattle.fg_fechead.specs.Laws as fechead
use Rattle.fg_fechead.specs.FecHeader.{IsExtended, IsPlainXor, HasShape}
use Rattle.fg_fechead.specs.ParityDatagram as parity_datagram
use Rattle.fg_fechead.specs.ParityDatagram.{FirstFault as FirstFecFault}
use Rattle.fg_shape.specs.declared.kind.Kind.{Kind}
use Rattle.fg_shape.specs.declared.kind.Kind.TheVariants as kind
use Rattle.fg_flows.specs.Flows.{IsTable}
use Rattle.fg_flows.specs.Laws.{OneFlowHasAPort}
use Rattle.fg_inspect.specs.declared.reading.Reading.{Reading}
use Rattle.fg_inspect.specs.declared.reading.Reading.TheVariants.{Media, NoMedia, Parity, NoParity, Other}
use Rattle.fg_inspect.specs.Laws.{OneReading}
use Rattle.fg_inspect.specs.Reading.{IsMedia, IsParity, IsReadAsMedia, IsReadAsParity, IsReadAs, Carries, IsReading}

-- The first broken rule is one

-- the fault is of these, its rule is broken, and those of the faults before it are kept
abbrev First : {F : Type 0} → (F → Type 0) → List F → F → Type 0
First rule [] fault = ⊥
First rule (x ∷ faults) fault = ((fault ≡ x) × (¬ rule x)) ⊎ (rule x × First rule faults fault)

one_first : {F : Type 0} (rule : F → Type 0) (faults : List F) (f g : F) → First rule faults f → First rule faults g → f ≡ g
one_first rule [] f g h k = absurd h
one_first rule (x ∷ faults) f g (inl h) (inl k) = h.0 ∙ sym k.0
one_first rule (x ∷ faults) f g (inl h) (inr k) = absurd (h.1 k.0)
one_first rule (x ∷ faults) f g (inr h) (inl k) = absurd (k.1 h.0)
one_first rule (x ∷ faults) f g (inr h) (inr k) = one_first rule faults f g h.1 k.1

abbrev media_faults : List MediaFault
media_faults = media.Short ∷ media.Version ∷ media.Flags ∷ media.PayloadType ∷ media.Size ∷ media.NoSync ∷ []

abbrev fec_faults : List FecFault
fec_faults = fec.Short ∷ fec.Version ∷ fec.NoExtension ∷ fec.OtherFec ∷ fec.Shape ∷ fec.Size ∷ []

abbrev media_rule : List ℕ → MediaFault → Type 0
media_rule bytes media.Short = media_datagram.HasHeader bytes
media_rule bytes media.Version = media_datagram.IsVersionTwo bytes
media_rule bytes media.Flags = media_datagram.IsPlain bytes
media_rule bytes media.PayloadType = media_datagram.IsTransport bytes
media_rule bytes media.Size = media_datagram.HasPackets bytes
media_rule bytes media.NoSync = media_datagram.IsSynced bytes

abbrev fec_rule : List ℕ → FecFault → Type 0
fec_rule bytes fec.Short = parity_datagram.HasHeaders bytes
fec_rule bytes fec.Version = parity_datagram.IsVersionTwo bytes
fec_rule bytes fec.NoExtension = IsExtended (parity_datagram.header_in bytes)
fec_rule bytes fec.OtherFec = IsPlainXor (parity_datagram.header_in bytes)
fec_rule bytes fec.Shape = HasShape (parity_datagram.header_in bytes)
fec_rule bytes fec.Size = parity_datagram.HasPayload bytes

media_first : (bytes : List ℕ) (f : MediaFault) → FirstMediaFault f bytes → First (media_rule bytes) media_faults f
media_first bytes media.Short h = inl (refl, h)
media_first bytes media.Version h = inr (h.0, inl (refl, h.1))
media_first bytes media.Flags h = inr (h.0, inr (h.1, inl (refl, h.2)))
media_first bytes media.PayloadType h = inr (h.0, inr (h.1, inr (h.2, inl (refl, h.3))))
media_first bytes media.Size h = inr (h.0, inr (h.1, inr (h.2, inr (h.3, inl (refl, h.4)))))
media_first bytes media.NoSync h = inr (h.0, inr (h.1, inr (h.2, inr (h.3, inr (h.4, inl (refl, h.5))))))

fec_first : (bytes : List ℕ) (f : FecFault) → FirstFecFault f bytes → First (fec_rule bytes) fec_faults f
fec_first bytes fec.Short h = inl (refl, h)
fec_first bytes fec.Version h = inr (h.0, inl (refl, h.1))
fec_first bytes fec.NoExtension h = inr (h.0, inr (h.1, inl (refl, h.2)))
fec_first bytes fec.OtherFec h = inr (h.0, inr (h.1, inr (h.2, inl (refl, h.3))))
fec_first bytes fec.Shape h = inr (h.0, inr (h.1, inr (h.2, inr (h.3, inl (refl, h.4)))))
fec_first bytes fec.Size h = inr (h.0, inr (h.1, inr (h.2, inr (h.3, inr (h.4, inl (refl, h.5))))))

-- Readings by kind

one_media : rtp.ReadsOneWay → (bytes : List ℕ) (seq len seq' len' : ℕ) → IsMedia bytes seq len → IsMedia bytes seq' len' → Media seq len ≡ Media seq' len'
one_media law bytes seq len seq' len' h k =
    let same = law bytes seq h.ssrc seq' k.ssrc h.word k.word h.datagram k.datagram in
    ap (λ s. Media s len) same.0 ∙ ap (λ n. Media seq' n) (h.size ∙ ap (λ w. w.len) same.2 ∙ sym k.size)

read_as_media : rtp.ReadsOneWay → (bytes : List ℕ) (a b : Reading) → IsReadAsMedia bytes a → IsReadAsMedia bytes b → a ≡ b
read_as_media law bytes (Media s l) (Media s' l') h k = one_media law bytes s l s' l' h k
read_as_media law bytes (Media s l) (NoMedia f) h k = absurd (k.none s h.ssrc h.word h.datagram)
read_as_media law bytes (Media s l) (Parity by base offset na) h k = absurd k
read_as_media law bytes (Media s l) (NoParity by f) h k = absurd k
read_as_media law bytes (Media s l) Other h k = absurd k
read_as_media law bytes (NoMedia f) (Media s l) h k = absurd (h.none s k.ssrc k.word k.datagram)
read_as_media law bytes (NoMedia f) (NoMedia g) h k = ap NoMedia (one_first (media_rule bytes) media_faults f g (media_first bytes f h.first) (media_first bytes g k.first))
read_as_media law bytes (NoMedia f) (Parity by base offset na) h k = absurd k
read_as_media law bytes (NoMedia f) (NoParity by g) h k = absurd k
read_as_media law bytes (NoMedia f) Other h k = absurd k
read_as_media law bytes (Parity by base offset na) b h k = absurd h
read_as_media law bytes (NoParity by f) b h k = absurd h
read_as_media law bytes Other b h k = absurd h

abbrev parity_reading : Kind → ParityRead → Reading
parity_reading by parity = Parity by parity.base parity.shape.offset parity.shape.na

told : (kind by : Kind) (bytes : List ℕ) (base offset na : ℕ) → by ≡ kind → (h : IsParity bytes base offset na) → Parity by base offset na ≡ parity_reading kind h.parity
told kind by bytes base offset na e h =
    ap (λ k. Parity k base offset na) e ∙ ap (λ n. Parity kind n offset na) h.base_is
    ∙ ap (λ n. Parity kind h.parity.base n na) h.offset_is ∙ ap (λ n. Parity kind h.parity.base h.parity.shape.offset n) h.na_is

read_as_parity : fechead.ReadsOneWay → (kind : Kind) (bytes : List ℕ) (a b : Reading) → IsReadAsParity kind bytes a → IsReadAsParity kind bytes b → a ≡ b
read_as_parity law kind bytes (Parity by base offset na) (Parity by' base' offset' na') h k =
    told kind by bytes base offset na h.0 h.1 ∙ ap (λ p. parity_reading kind p) (law bytes h.1.parity k.1.parity h.1.datagram k.1.datagram)
    ∙ sym (told kind by' bytes base' offset' na' k.0 k.1)
read_as_parity law kind bytes (Parity by base offset na) (NoParity by' f) h k = absurd (k.1.none h.1.parity h.1.datagram)
read_as_parity law kind bytes (Parity by base offset na) (Media s l) h k = absurd k
read_as_parity law kind bytes (Parity by base offset na) (NoMedia f) h k = absurd k
read_as_parity law kind bytes (Parity by base offset na) Other h k = absurd k
read_as_parity law kind bytes (NoParity by f) (Parity by' base offset na) h k = absurd (h.1.none k.1.parity k.1.datagram)
read_as_parity law kind bytes (NoParity by f) (NoParity by' g) h k =
    ap (λ t. NoParity t f) (h.0 ∙ sym k.0) ∙ ap (λ t. NoParity by' t) (one_first (fec_rule bytes) fec_faults f g (fec_first bytes f h.1.first) (fec_first bytes g k.1.first))
read_as_parity law kind bytes (NoParity by f) (Media s l) h k = absurd k
read_as_parity law kind bytes (NoParity by f) (NoMedia g) h k = absurd k
read_as_parity law kind bytes (NoParity by f) Other h k = absurd k
read_as_parity law kind bytes (Media s l) b h k = absurd h
read_as_parity law kind bytes (NoMedia f) b h k = absurd h
read_as_parity law kind bytes Other b h k = absurd h

read_as : rtp.ReadsOneWay → fechead.ReadsOneWay → (kind : Kind) (bytes : List ℕ) (a b : Reading) → IsReadAs kind bytes a → IsReadAs kind bytes b → a ≡ b
read_as media fec kind.Media bytes a b h k = read_as_media media bytes a b h k
read_as media fec kind.Column bytes a b h k = read_as_parity fec kind.Column bytes a b h k
read_as media fec kind.Row bytes a b h k = read_as_parity fec kind.Row bytes a b h k

-- Readings by port

-- what is read on a port of some flow
abbrev IsOfFlow : List ℕ → ℕ → List ℕ → Reading → Type 0
IsOfFlow flows port bytes reading = (kind : Kind) × Carries flows port kind × IsReadAs kind bytes reading

one_of_flow : rtp.ReadsOneWay → fechead.ReadsOneWay → OneFlowHasAPort → (flows : List ℕ) (port : ℕ) (bytes : List ℕ) (a b : Reading) → IsTable flows → IsOfFlow flows port bytes a → IsOfFlow flows port bytes b → a ≡ b
one_of_flow media fec law flows port bytes a b table h k =
    let same : k.0 ≡ h.0 = (law flows port k.1.0 h.1.0 k.0 h.0 table k.1.1 h.1.1).1 in
    read_as media fec h.0 bytes a b h.2 (subst (λ (t : Kind). IsReadAs t bytes b) same k.2)

-- a reading of a flow's port, or of none
data PortRead (flows : List ℕ) (port : ℕ) (bytes : List ℕ) (reading : Reading) : Type 0 where
  of_flow : IsOfFlow flows port bytes reading → PortRead flows port bytes reading
  of_none : reading ≡ Other → ((kind : Kind) → ¬ Carries flows port kind) → PortRead flows port bytes reading

port_read : (flows : List ℕ) (port : ℕ) (bytes : List ℕ) (reading : Reading) → IsReading flows port bytes reading → PortRead flows port bytes reading
port_read flows port bytes (Media s l) h = of_flow h
port_read flows port bytes (NoMedia f) h = of_flow h
port_read flows port bytes (Parity by base offset na) h = of_flow h
port_read flows port bytes (NoParity by f) h = of_flow h
port_read flows port bytes Other h = of_none refl h

pub one_reading : rtp.ReadsOneWay → fechead.ReadsOneWay → OneFlowHasAPort → OneReading
one_reading media fec law flows port bytes a b table h k =
    elim (port_read flows port bytes a h) as (λ _. a ≡ b) [
      | of_flow x ↦ elim (port_read flows port bytes b k) as (λ _. a ≡ b) [
        | of_flow y ↦ one_of_flow media fec law flows port bytes a b table x y
        | of_none e none ↦ absurd (none x.0 x.1)
      ]
      | of_none e none ↦ elim (port_read flows port bytes b k) as (λ _. a ≡ b) [
        | of_flow y ↦ absurd (none y.0 y.1)
        | of_none e' none' ↦ e ∙ sym e'
      ]
    ]
