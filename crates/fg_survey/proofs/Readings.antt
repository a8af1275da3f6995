-- A datagram is read in one way, and a trace has one text.
use Rattle.std.proofs.Common.{◌≡◌, ℕ, List, [], ◌∷◌, reverse, refl, sym, ap, ◌∙◌}
use Rattle.std.specs.List.{AllZip}
use Rattle.fg_rtp.specs.Laws as rtp
use Rattle.fg_fechead.specs.declared.Parity.{Parity as ParityRead}
use Rattle.fg_fechead.specs.Laws as fechead
use Rattle.fg_words.specs.declared.Word.{Word}
use Rattle.fg_trace.specs.Trace.{Record}
use Rattle.fg_survey.specs.declared.reading.Reading.TheVariants.{Media, Parity, Other}
use Rattle.fg_survey.specs.Heard.{Heard, IsHeard}
use Rattle.fg_survey.specs.Laws.{OneReading, OneText}
use Rattle.fg_survey.specs.Survey.{text_of}

media_same : (seq ts ssrc seq' ts' ssrc' : ℕ) → seq ≡ seq' → ts ≡ ts' → ssrc ≡ ssrc' → Media seq ts ssrc ≡ Media seq' ts' ssrc'
media_same seq ts ssrc seq' ts' ssrc' s t r = ap (λ n. Media n ts ssrc) s ∙ ap (λ n. Media seq' n ssrc) t ∙ ap (λ n. Media seq' ts' n) r

parity_same : (base offset number base' offset' number' : ℕ) → base ≡ base' → offset ≡ offset' → number ≡ number' → Parity base offset number ≡ Parity base' offset' number'
parity_same base offset number base' offset' number' b o n = ap (λ k. Parity k offset number) b ∙ ap (λ k. Parity base' k number) o ∙ ap (λ k. Parity base' offset' k) n

pub one_reading : rtp.ReadsOneWay → fechead.ReadsOneWay → OneReading
one_reading media parity bytes (Media seq ts ssrc) (Media seq' ts' ssrc') h k =
    let same = media bytes seq ssrc seq' ssrc' h.word k.word h.datagram k.datagram in
    media_same seq ts ssrc seq' ts' ssrc' same.0 (h.ts_is ∙ ap (λ (w : Word). w.ts) same.2 ∙ sym k.ts_is) same.1
one_reading media parity bytes (Media seq ts ssrc) (Parity base offset number) h k = absurd (k.no_media seq ssrc h.word h.datagram)
one_reading media parity bytes (Media seq ts ssrc) Other h k = absurd (k.no_media seq ssrc h.word h.datagram)
one_reading media parity bytes (Parity base offset number) (Media seq ts ssrc) h k = absurd (h.no_media seq ssrc k.word k.datagram)
one_reading media parity bytes (Parity base offset number) (Parity base' offset' number') h k =
    let same = parity bytes h.parity k.parity h.datagram k.datagram in
    parity_same base offset number base' offset' number'
    (h.base_is ∙ ap (λ (p : ParityRead). p.base) same ∙ sym k.base_is)
    (h.offset_is ∙ ap (λ (p : ParityRead). p.shape.offset) same ∙ sym k.offset_is)
    (h.number_is ∙ ap (λ (p : ParityRead). p.shape.na) same ∙ sym k.number_is)
one_reading media parity bytes (Parity base offset number) Other h k = absurd (k.no_parity h.parity h.datagram)
one_reading media parity bytes Other (Media seq ts ssrc) h k = absurd (h.no_media seq ssrc k.word k.datagram)
one_reading media parity bytes Other (Parity base offset number) h k = absurd (h.no_parity k.parity k.datagram)
one_reading media parity bytes Other Other h k = refl

same_heard : (x y : Heard) → x.time ≡ y.time → x.port ≡ y.port → x.datagram ≡ y.datagram → x.reading ≡ y.reading → x ≡ y
same_heard x y time port datagram reading =
    ap (λ t. record x { time = t }) time ∙ ap (λ t. record x { time = y.time; port = t }) port
    ∙ ap (λ t. record y { datagram = t; reading = x.reading }) datagram ∙ ap (λ t. record y { reading = t }) reading

one_heard : OneReading → (x y : Heard) (r : Record) → IsHeard x r → IsHeard y r → x ≡ y
one_heard law x y r h k =
    same_heard x y (h.time ∙ sym k.time) (h.port ∙ sym k.port) (h.datagram ∙ sym k.datagram) (law r.datagram x.reading y.reading h.reading k.reading)

all_heard : OneReading → (xs ys : List Heard) (rs : List Record) → AllZip IsHeard xs rs → AllZip IsHeard ys rs → xs ≡ ys
all_heard law [] [] [] h k = refl
all_heard law [] (y ∷ ys) [] h k = absurd k
all_heard law (x ∷ xs) ys [] h k = absurd h
all_heard law [] ys (r ∷ rs) h k = absurd h
all_heard law (x ∷ xs) [] (r ∷ rs) h k = absurd k
all_heard law (x ∷ xs) (y ∷ ys) (r ∷ rs) h k =
    ap (λ z. z ∷ xs) (one_heard law x y r h.0 k.0) ∙ ap (λ zs. y ∷ zs) (all_heard law xs ys rs h.1 k.1)

pub one_text : OneReading → OneText
one_text law json records end one other h k =
    h.text_is ∙ ap (λ xs. text_of json xs end) (all_heard law h.heard k.heard (reverse records) h.read k.read) ∙ sym k.text_is
