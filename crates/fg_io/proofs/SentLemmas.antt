-- Lemmas on how far the writing of a text has come.
use Rattle.std.proofs.Common.{◌≡◌, ℕ, suc, ◌+◌, ◌<◌, Option, List, [], ◌++◌, length, take, drop, get_or, sym, refl, ap, ◌∙◌, subst, append_assoc, append-nil}
use Rattle.std.specs.List.{flat_map}
use Rattle.fg_io.specs.Sent.{Sent}
use Rattle.fg_io.specs.Sink.{Gains, GainsPart}
use Rattle.fg_io.proofs.SinkLemmas.{Gains-nil, Gains-trans, GainsPart-longer, GainsPart-trans, GainsPart-whole}
use Rattle.fg_io.proofs.TextLemmas.{flat_map-more, flat_map-at}

-- nothing is written, and all is held
pub Sent-start : (written : Option (List ℕ)) (held : List ℕ) → Sent written held held written
Sent-start written held = record { front = []; gained = Gains-nil written; rest = refl }

-- what was held is written, and the next is held
pub Sent-next : (before after : Option (List ℕ)) (held next : List ℕ) → Gains before held after → Sent before (held ++ next) next after
Sent-next before after held next gained = record { front = held; gained = gained; rest = refl }

-- all is written, and nothing is held
pub Sent-all : (before after : Option (List ℕ)) (held : List ℕ) → Gains before held after → Sent before held [] after
Sent-all before after held gained = record { front = held; gained = gained; rest = sym (append-nil held) }

-- the same text after a part that was written
along : (text front held piece : List ℕ) → text ≡ front ++ held → front ++ (held ++ piece) ≡ text ++ piece
along text front held piece rest = sym (append_assoc front held piece) ∙ ap (λ bytes. bytes ++ piece) (sym rest)

-- a piece is added to what is held, and some of both is written
pub Sent-then : (first second third : Option (List ℕ)) (text held piece next : List ℕ)
    → Sent first text held second → Sent second (held ++ piece) next third → Sent first (text ++ piece) next third
Sent-then first second third text held piece next once again = record {
  front = once.front ++ again.front;
  gained = Gains-trans first second third once.front again.front once.gained again.gained;
  rest = sym (along text once.front held piece once.rest) ∙ ap (λ bytes. once.front ++ bytes) again.rest
      ∙ sym (append_assoc once.front again.front next);
}

-- all that was held is written
pub Sent-whole : (first second third : Option (List ℕ)) (text held : List ℕ) → Sent first text held second → Gains second held third → Gains first text third
Sent-whole first second third text held once again =
    subst (λ bytes. Gains first bytes third) (sym once.rest) (Gains-trans first second third once.front held once.gained again)

-- a front of what was held is written
pub Sent-cut : (first second third : Option (List ℕ)) (text held : List ℕ) → Sent first text held second → GainsPart second held third → GainsPart first text third
Sent-cut first second third text held once again =
    subst (λ bytes. GainsPart first bytes third) (sym once.rest) (GainsPart-trans first second third once.front held once.gained again)

-- a piece is added to what is held, and all of both is written
pub Sent-end : (first second third : Option (List ℕ)) (text held piece : List ℕ)
    → Sent first text held second → Gains second (held ++ piece) third → Gains first (text ++ piece) third
Sent-end first second third text held piece once again =
    subst (λ bytes. Gains first bytes third) (along text once.front held piece once.rest)
    (Gains-trans first second third once.front (held ++ piece) once.gained again)

-- a piece is added to what is held, and a front of both is written
pub Sent-part : (first second third : Option (List ℕ)) (text held piece : List ℕ)
    → Sent first text held second → GainsPart second (held ++ piece) third → GainsPart first (text ++ piece) third
Sent-part first second third text held piece once again =
    subst (λ bytes. GainsPart first bytes third) (along text once.front held piece once.rest)
    (GainsPart-trans first second third once.front (held ++ piece) once.gained again)

-- nothing more is written
pub Sent-stop : (before after : Option (List ℕ)) (text held more : List ℕ) → Sent before text held after → GainsPart before (text ++ more) after
Sent-stop before after text held more sent =
    subst (λ bytes. GainsPart before bytes after) (along text sent.front held more sent.rest)
    (GainsPart-longer before after sent.front (held ++ more) (GainsPart-whole before after sent.front sent.gained))

-- one more element's text
pub Sent-more : {X : Type 0} (f : X → List ℕ) (xs : List X) (i : ℕ) (d x : X) (first second third : Option (List ℕ)) (start held next : List ℕ)
    → i < length xs → x ≡ get_or xs i d → Sent first (start ++ flat_map f (take i xs)) held second → Sent second (held ++ f x) next third
    → Sent first (start ++ flat_map f (take (i + 1) xs)) next third
Sent-more f xs i d x first second third start held next within is once again =
    subst (λ bytes. Sent first bytes next third)
    (append_assoc start (flat_map f (take i xs)) (f (get_or xs i d)) ∙ ap (λ bytes. start ++ bytes) (sym (flat_map-more f xs i d within)))
    (Sent-then first second third (start ++ flat_map f (take i xs)) held (f (get_or xs i d)) next once
    (subst (λ x. Sent second (held ++ f x) next third) is again))

-- a front of one more element's text
pub Sent-at : {X : Type 0} (f : X → List ℕ) (xs : List X) (i : ℕ) (d x : X) (first second third : Option (List ℕ)) (start held : List ℕ)
    → i < length xs → x ≡ get_or xs i d → Sent first (start ++ flat_map f (take i xs)) held second → GainsPart second (held ++ f x) third
    → GainsPart first (start ++ flat_map f xs) third
Sent-at f xs i d x first second third start held within is once again =
    subst (λ bytes. GainsPart first bytes third)
    (append_assoc start (flat_map f (take i xs)) (f (get_or xs i d) ++ flat_map f (drop (suc i) xs))
    ∙ ap (λ bytes. start ++ bytes) (sym (flat_map-at f xs i d within)))
    (subst (λ bytes. GainsPart first bytes third)
    (append_assoc (start ++ flat_map f (take i xs)) (f (get_or xs i d)) (flat_map f (drop (suc i) xs)))
    (GainsPart-longer first third _ (flat_map f (drop (suc i) xs))
    (Sent-part first second third (start ++ flat_map f (take i xs)) held (f (get_or xs i d)) once
    (subst (λ x. GainsPart second (held ++ f x) third) is again))))

-- what is sent is a part, whatever is held
pub part_sent : (before at : Option (List ℕ)) (text held : List ℕ) → Sent before text held at → GainsPart before text at
part_sent before at text held sent = subst (λ t. GainsPart before t at) (append-nil text) (Sent-stop before at text held [] sent)
