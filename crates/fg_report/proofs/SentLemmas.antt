-- How far the writing of a report has come.
use Rattle.std.proofs.Common.{◌≡◌, ℕ, Option, Result, Ok, Err, OnOk, OnErr, List, [], ◌++◌, sym, ap, ◌∙◌, subst, append_assoc}
use Rattle.std.specs.List.{flat_map}
use Rattle.fg_io.specs.Sent.{Sent}
use Rattle.fg_io.specs.Sink.{GainsPart}
use Rattle.fg_io.proofs.SinkLemmas.{GainsPart-longer}
use Rattle.fg_io.proofs.SentLemmas.{Sent-part, Sent-stop, Sent-then}
use Rattle.fg_report.specs.Text.{flow_lines, gap_line, flow_text, other_line, tail_text, report_of}
use Rattle.fg_report.specs.declared.tail.Tail.{Tail}
use Rattle.fg_report.specs.declared.flow_sum.FlowSum.{FlowSum}

-- what holds, holds where there is an error
pub on_err : {T E P : Type 0} (r : Result T E) → P → OnErr r P
on_err (Ok _) holds = tt
on_err (Err _) holds = holds

-- a piece is made where nothing is left of the one before
pub made : (held cleared piece lines : List ℕ) → cleared ≡ [] → piece ≡ cleared ++ lines → held ++ piece ≡ held ++ lines
made held cleared piece lines none pushed = ap (λ bytes. held ++ bytes) (pushed ∙ ap (λ bytes. bytes ++ lines) none)

-- a flow's lines: a front of the first four is written
pub flow_begun : (before after : Option (List ℕ)) (start held : List ℕ) (flow : FlowSum)
    → held ≡ start ++ flow_lines flow → GainsPart before held after → GainsPart before (start ++ flow_text flow) after
flow_begun before after start held flow pushed part =
    subst (λ bytes. GainsPart before bytes after) (append_assoc start (flow_lines flow) (flat_map (gap_line flow.port) flow.gaps))
    (GainsPart-longer before after (start ++ flow_lines flow) (flat_map (gap_line flow.port) flow.gaps)
    (subst (λ bytes. GainsPart before bytes after) pushed part))

-- the four, and then those of the gaps
pub flow_ended : (first second third : Option (List ℕ)) (start pushed held next : List ℕ) (gaps : List (ℕ × ℕ)) (flow : FlowSum)
    → pushed ≡ start ++ flow_lines flow → Sent first pushed held second → gaps ≡ flow.gaps
    → Sent second (held ++ flat_map (gap_line flow.port) gaps) next third → Sent first (start ++ flow_text flow) next third
flow_ended first second third start pushed held next gaps flow lines once runs again =
    subst (λ bytes. Sent first bytes next third)
    (ap (λ bytes. bytes ++ flat_map (gap_line flow.port) gaps) lines
    ∙ append_assoc start (flow_lines flow) (flat_map (gap_line flow.port) gaps)
    ∙ ap (λ gaps. start ++ (flow_lines flow ++ flat_map (gap_line flow.port) gaps)) runs)
    (Sent-then first second third pushed held (flat_map (gap_line flow.port) gaps) next once again)

-- the four, and then a front of those of the gaps
pub flow_cut : (first second third : Option (List ℕ)) (start pushed held : List ℕ) (gaps : List (ℕ × ℕ)) (flow : FlowSum)
    → pushed ≡ start ++ flow_lines flow → Sent first pushed held second → gaps ≡ flow.gaps
    → GainsPart second (held ++ flat_map (gap_line flow.port) gaps) third → GainsPart first (start ++ flow_text flow) third
flow_cut first second third start pushed held gaps flow lines once runs again =
    subst (λ bytes. GainsPart first bytes third)
    (ap (λ bytes. bytes ++ flat_map (gap_line flow.port) gaps) lines
    ∙ append_assoc start (flow_lines flow) (flat_map (gap_line flow.port) gaps)
    ∙ ap (λ gaps. start ++ (flow_lines flow ++ flat_map (gap_line flow.port) gaps)) runs)
    (Sent-part first second third pushed held (flat_map (gap_line flow.port) gaps) once again)

-- the report is the flows' lines and the end
report_parts : (flows : List FlowSum) (other : ℕ) (tail : Tail)
    → flat_map flow_text flows ++ (other_line other ++ tail_text tail) ≡ report_of flows other tail
report_parts flows other tail = sym (append_assoc (flat_map flow_text flows) (other_line other) (tail_text tail))

-- a front of the flows' lines is written
pub report_begun : (before after : Option (List ℕ)) (empty : List ℕ) (flows : List FlowSum) (other : ℕ) (tail : Tail) → empty ≡ []
    → GainsPart before (empty ++ flat_map flow_text flows) after → GainsPart before (report_of flows other tail) after
report_begun before after empty flows other tail none part =
    subst (λ bytes. GainsPart before bytes after) (report_parts flows other tail)
    (GainsPart-longer before after (flat_map flow_text flows) (other_line other ++ tail_text tail)
    (subst (λ bytes. GainsPart before (bytes ++ flat_map flow_text flows) after) none part))

-- the flows' lines, of which some are held
pub report_stopped : (before after : Option (List ℕ)) (empty held : List ℕ) (flows : List FlowSum) (other : ℕ) (tail : Tail) → empty ≡ []
    → Sent before (empty ++ flat_map flow_text flows) held after → GainsPart before (report_of flows other tail) after
report_stopped before after empty held flows other tail none sent =
    subst (λ bytes. GainsPart before bytes after) (report_parts flows other tail)
    (Sent-stop before after (flat_map flow_text flows) held (other_line other ++ tail_text tail)
    (subst (λ bytes. Sent before (bytes ++ flat_map flow_text flows) held after) none sent))

-- what was held, and a front of the end
pub report_cut : (first second third : Option (List ℕ)) (empty held all : List ℕ) (flows : List FlowSum) (other : ℕ) (tail : Tail) → empty ≡ []
    → Sent first (empty ++ flat_map flow_text flows) held second → all ≡ held ++ (other_line other ++ tail_text tail)
    → GainsPart second all third → GainsPart first (report_of flows other tail) third
report_cut first second third empty held all flows other tail none sent pushed part =
    subst (λ bytes. GainsPart first bytes third) (report_parts flows other tail)
    (Sent-part first second third (flat_map flow_text flows) held (other_line other ++ tail_text tail)
    (subst (λ bytes. Sent first (bytes ++ flat_map flow_text flows) held second) none sent)
    (subst (λ bytes. GainsPart second bytes third) pushed part))

-- the flows' lines and the end, of which some are held
pub report_held : (first second third : Option (List ℕ)) (empty held all next : List ℕ) (flows : List FlowSum) (other : ℕ) (tail : Tail) → empty ≡ []
    → Sent first (empty ++ flat_map flow_text flows) held second → all ≡ held ++ (other_line other ++ tail_text tail)
    → Sent second all next third → Sent first (report_of flows other tail) next third
report_held first second third empty held all next flows other tail none sent pushed again =
    subst (λ bytes. Sent first bytes next third) (report_parts flows other tail)
    (Sent-then first second third (flat_map flow_text flows) held (other_line other ++ tail_text tail) next
    (subst (λ bytes. Sent first (bytes ++ flat_map flow_text flows) held second) none sent)
    (subst (λ bytes. Sent second bytes next third) pushed again))

-- three pieces, one after another, are one
pub regrouped : {T E : Type 0} (r : Result T E) (old new words digits end : List ℕ)
    → OnOk r (new ≡ old ++ words ++ digits ++ end) → OnOk r (new ≡ old ++ (words ++ digits ++ end))
regrouped (Ok _) old new words digits end pushed = pushed ∙ simp append_assoc
regrouped (Err _) old new words digits end pushed = tt
