-- What a filter or a printer does is what a request for it is answered with.
use Rattle.std.proofs.Common.{◌≡◌, ◌⊎◌, inl, inr, ℕ, List, [], ◌∷◌, Option, None, Some, IfSome, refl, sym, ap, ◌∙◌, subst, arith}
use Rattle.fg_io.specs.Faults.{CountsFaults}
use Rattle.fg_io.specs.Outlet.{Lanes}
use Rattle.fg_results.specs.Counted.{CountsAhead}
use Rattle.fg_commands.specs.declared.ended.Ended.{Ended}
use Rattle.fg_commands.specs.declared.ended.Why.{Why}
use Rattle.fg_commands.specs.declared.ended.Why.TheVariants as why
use Rattle.fg_commands.specs.Answered.{RequestAnswered}
use Rattle.fg_commands.specs.Ended.{IsFault, status_of}
use Rattle.fg_commands.specs.Filter.{Filter, FilterAnswered, FilterEnded, also_back, at_the_end, filter}
use Rattle.fg_commands.specs.Printer.{Printer, PrinterAnswered, printer}
use Rattle.fg_commands.proofs.Completing.{complete_told}
use Rattle.fg_commands.proofs.Lawful.{Lawful, none_wrong}

-- a call that makes no lane, and one that reads nothing
no_lane : {R W : Type 0} {sources : List (ℕ × ℕ)} {before after lanes : ℕ} → CountsFaults R W sources ((before, after) ∷ [])
    → CountsAhead R R W sources ((before, after) ∷ (lanes, lanes) ∷ [])
no_lane h = record {
  read = h.read;
  write = λ w. inl (h.write w);
  no_read = h.no_read;
  no_write = λ no. (h.no_write no, refl);
  rise = h.rise;
  sinks_rise = (h.sinks_rise, omega arith);
}

pub no_input : {R W : Type 0} {input : ℕ} {sinks : List (ℕ × ℕ)} → CountsFaults R W [] sinks → CountsFaults R W ((input, input) ∷ []) sinks
no_input h = record {
  read = λ r. absurd (h.read r);
  write = h.write;
  no_read = λ no. refl;
  no_write = h.no_write;
  rise = omega arith;
  sinks_rise = h.sinks_rise;
}

-- of what isn't its input nothing is made, nor any lane
refused : (first : Option (List ℕ)) (P : List ℕ → Type 0) (A B : Type 0) → A → IfSome first (λ bytes. P bytes → B) → IfSome first (λ bytes. P bytes → A × B)
refused None P A B a h = tt
refused (Some bytes) P A B a h = λ p. (a, h p)

-- what reads nothing leaves its input
pub stays : (first : Option (List ℕ)) → IfSome first (λ bytes. first ≡ Some bytes)
stays None = tt
stays (Some bytes) = refl

-- a fault of reading is a fault
pub read_breaks : (answer : Why) → answer ≡ why.ReadFault → IsFault answer
read_breaks answer e = subst (λ (a : Why). IsFault a) (sym e) tt

-- a filter
pub filter_answered : {S O K : Type 0} {left : S → Option (List ℕ)} {input_faults : S → ℕ} {input input' : S}
    {lanes_of : O → Option Lanes} {lane_faults : O → ℕ} {lanes : O} {written : K → Option (List ℕ)} {out_faults : K → ℕ} {out out' : K}
    → (does : Filter) (answer : Why)
    → FilterAnswered does answer left input_faults input input' written out_faults out out'
    → RequestAnswered (filter does) answer left input_faults input input' lanes_of lane_faults lanes lanes written out_faults out out'
filter_answered does answer h = record {
  answers = elim h.whole [ inl fault ↦ inl fault | inr all ↦ inr (refl, all) ];
  comes_back = h.comes_back;
  exactly = h.exactly;
  complete = complete_told _ _ _ answer _ does.is_answer h.exactly h.faults.read (λ e. inl (h.faults.write e));
  part = λ fault. (refl, h.part fault);
  stops = λ fault. refl;
  at_read = λ e. tt;
  no_report = h.no_report;
  counts = no_lane h.faults;
  nothing_read = λ no. absurd no;
  nothing_written = λ no. absurd no;
  no_lane = λ so. refl;
  no_input = refused _ does.is_no_input _ _ refl h.refused;
  reads = h.reads;
  all_read = h.all_read;
}

pub filter_lawful : (does : Filter) → ((input written : Option (List ℕ)) → does.part input written written)
    → ((input written : Option (List ℕ)) → does.comes_back why.Memory input written written)
    → ((bytes : List ℕ) → does.reads why.Memory bytes (Some bytes)) → (does.reads_all why.Memory → ⊥)
    → Lawful (filter does)
filter_lawful does part back reads ends = record {
  breaks = read_breaks;
  part = λ {K} input lanes written out. (refl, part input (written out));
  stops = λ input lanes. refl;
  comes_back = λ input lanes written. back input written;
  reads = reads;
  reads_all = ends;
}

-- one of which more comes back, and one that writes last
pub also_answered : {S K : Type 0} {left : S → Option (List ℕ)} {input_faults : S → ℕ} {input input' : S}
    {written : K → Option (List ℕ)} {out_faults : K → ℕ} {out out' : K}
    → (does : Filter) (answer : Why) (back : Why → Option (List ℕ) → Option (List ℕ) → Option (List ℕ) → Type 0)
    → FilterAnswered does answer left input_faults input input' written out_faults out out'
    → back answer (left input) (written out) (written out')
    → FilterAnswered (also_back back does) answer left input_faults input input' written out_faults out out'
also_answered does answer back h comes = record {
  whole = h.whole;
  exactly = h.exactly;
  comes_back = comes;
  part = h.part;
  no_report = h.no_report;
  reads = h.reads;
  all_read = h.all_read;
  refused = h.refused;
  faults = h.faults;
}

pub last_answered : {S K : Type 0} {left : S → Option (List ℕ)} {input_faults : S → ℕ} {input input' : S}
    {written : K → Option (List ℕ)} {out_faults : K → ℕ} {out out' : K}
    → (does : Filter) (answer : Why)
    → FilterAnswered does answer left input_faults input input' written out_faults out out'
    → (answer ≡ why.ReadFault → out' ≡ out)
    → FilterAnswered (at_the_end does) answer left input_faults input input' written out_faults out out'
last_answered does answer h none = record {
  whole = h.whole;
  exactly = h.exactly;
  comes_back = h.comes_back;
  part = h.part;
  no_report = λ last. none;
  reads = h.reads;
  all_read = h.all_read;
  refused = h.refused;
  faults = h.faults;
}

-- one that has ended with its answer
pub ended_so : {S K : Type 0} {does : Filter} {left : S → Option (List ℕ)} {input_faults : S → ℕ} {input input' : S}
    {written : K → Option (List ℕ)} {out_faults : K → ℕ} {out out' : K}
    → (ended : Ended) (told answer : Why) → ended.status ≡ status_of told → ended.why ≡ told → told ≡ answer
    → FilterAnswered does answer left input_faults input input' written out_faults out out'
    → FilterEnded does ended left input_faults input input' written out_faults out out'
ended_so ended told answer status why so h = record {
  status = status ∙ ap status_of (sym why);
  answered = rw (why, so) h;
}

-- a command that can only be done
pub done_told : {P : Type 0} (input : Option (List ℕ)) (answer : Why) → IsFault answer ⊎ ((answer ≡ why.Done) × P)
    → IfSome input (λ bytes. (due : Why) → due ≡ why.Done → IsFault answer ⊎ (answer ≡ due))
done_told None answer whole = tt
done_told (Some bytes) answer whole = λ due is. elim whole [ inl fault ↦ inl fault | inr h ↦ inr (rw is h.0) ]

-- a printer
pub printer_answered : {S O K : Type 0} {left : S → Option (List ℕ)} {input_faults : S → ℕ} {input : S}
    {lanes_of : O → Option Lanes} {lane_faults : O → ℕ} {lanes : O} {written : K → Option (List ℕ)} {out_faults : K → ℕ} {out out' : K}
    → (does : Printer) (answer : Why)
    → PrinterAnswered does answer written out_faults out out'
    → RequestAnswered (printer does) answer left input_faults input input lanes_of lane_faults lanes lanes written out_faults out out'
printer_answered does answer h =
    let due = done_told _ answer h.whole in
    record {
      answers = elim h.whole [ inl fault ↦ inl fault | inr all ↦ inr (all.0, refl, all.1) ];
      comes_back = tt;
      exactly = due;
      complete = complete_told _ _ _ answer _ (λ bytes due. due ≡ why.Done) due (λ e. absurd (h.faults.read e)) (λ e. inl (h.faults.write e));
      part = λ fault. (refl, h.part fault);
      stops = λ fault. refl;
      at_read = λ e. tt;
      no_report = λ last e. absurd last;
      counts = no_lane (no_input h.faults);
      nothing_read = λ so. refl;
      nothing_written = λ no. absurd no;
      no_lane = λ so. refl;
      no_input = none_wrong _ _;
      reads = stays _;
      all_read = λ no. absurd no;
    }

pub printer_lawful : (does : Printer) → ((written : Option (List ℕ)) → does.part written written) → Lawful (printer does)
printer_lawful does part = record {
  breaks = read_breaks;
  part = λ {K} input lanes written out. (refl, part (written out));
  stops = λ input lanes. refl;
  comes_back = λ input lanes written. tt;
  reads = λ bytes. refl;
  reads_all = λ no. no;
}
