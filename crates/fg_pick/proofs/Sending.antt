-- How what is picked of a record is sent.
use Rattle.std.proofs.Common.{◌≡◌, ℕ, Option, List, [], ◌∷◌, ◌++◌, length, sym, ap, ◌∙◌, subst, append_assoc, append-nil}
use Rattle.std.specs.List.{flat_map}
use Rattle.fg_io.specs.Sent.{Sent}
use Rattle.fg_io.specs.Sink.{GainsPart}
use Rattle.fg_io.proofs.SentLemmas.{Sent-start, Sent-then, Sent-part}
use Rattle.fg_io.proofs.SinkLemmas.{GainsPart-longer}
use Rattle.fg_flows.specs.declared.selection.Selection.{Selection}
use Rattle.fg_trace.specs.Trace.{Record, header_spelling, spelling}
use Rattle.fg_pick.specs.Laws.{PickedExist}
use Rattle.fg_pick.specs.Picked.{Fits}
use Rattle.fg_pick.specs.Steps.{SendsPart, SendsPicked}
use Rattle.fg_pick.proofs.Picking.{picked_it, picked_not}

-- one that isn't picked
pub none_sent : PickedExist → (selection : Selection) (r : Record) (held : List ℕ) (written : Option (List ℕ)) → (¬ Fits selection r) → SendsPicked selection r held held written written
none_sent exist selection r held written never = record {
  picked = [];
  is_picked = picked_not exist selection r never;
  sent = subst (λ t. Sent written t held written) (sym (append-nil held)) (Sent-start written held);
}

-- one that is: its header and its datagram are its spelling
module _ (exist : PickedExist) (selection : Selection) (r : Record) (fit : Fits selection r) (held header : List ℕ) (is : header ≡ header_spelling r.time r.port (length r.datagram)) where
  whole : (held ++ header) ++ r.datagram ≡ held ++ flat_map spelling (r ∷ [])
  whole = append_assoc held header r.datagram ∙ ap (λ h. held ++ (h ++ r.datagram)) is ∙ ap (λ t. held ++ t) (sym (append-nil (spelling r)))

  -- the header is not all written, for a fault
  pub in_header : (before after : Option (List ℕ)) → GainsPart before (held ++ header) after → SendsPart selection r held before after
  in_header before after part = record {
    picked = r ∷ [];
    is_picked = picked_it exist selection r fit;
    part = subst (λ bytes. GainsPart before bytes after) whole (GainsPart-longer before after (held ++ header) r.datagram part);
  }

  -- the datagram is not
  pub in_datagram : (before at after : Option (List ℕ)) (between : List ℕ) → Sent before (held ++ header) between at → GainsPart at (between ++ r.datagram) after → SendsPart selection r held before after
  in_datagram before at after between once part = record {
    picked = r ∷ [];
    is_picked = picked_it exist selection r fit;
    part = subst (λ bytes. GainsPart before bytes after) whole (Sent-part before at after (held ++ header) between r.datagram once part);
  }

  -- both are, or held
  pub it_sent : (before at after : Option (List ℕ)) (between next : List ℕ) → Sent before (held ++ header) between at → Sent at (between ++ r.datagram) next after → SendsPicked selection r held next before after
  it_sent before at after between next once again = record {
    picked = r ∷ [];
    is_picked = picked_it exist selection r fit;
    sent = subst (λ bytes. Sent before bytes next after) whole (Sent-then before at after (held ++ header) between r.datagram next once again);
  }
