-- What three stages have counted of faults of the outside.
use Rattle.std.proofs.Common.{◌≡◌, ◌∙◌, ◌≤◌, ℕ, Bool, true, false, Option, Some, None, [], ◌∷◌, Result, Ok, Err, refl, sym, arith}
use Rattle.fg_io.specs.declared.fault.Fault.{Fault}
use Rattle.fg_io.specs.declared.fault.Fault.TheVariants.{Read, Write, Memory}
use Rattle.fg_report.specs.declared.tail.Tail.{Tail}
use Rattle.fg_results.specs.Counted.{CountsBeside}
use Rattle.fg_batches.specs.Stages.{CountsEnd, CountsPut, answer_to, starved_answer}

-- No count of reading falls.
ends_rise : (end : Option (Result Tail Fault)) (read read' : ℕ) → CountsEnd end (read, read') → read ≤ read'
ends_rise None read read' h = omega (arith, h)
ends_rise (Some came) read read' h = h.rise

ends_stand : (tail : Tail) (read read' : ℕ) → CountsEnd (Some (Ok tail)) (read, read') → read' ≡ read
ends_stand tail read read' h = h.no_read (λ none. none)

read_write : Read ≡ Write → ⊥
read_write e = cc

write_read : Write ≡ Read → ⊥
write_read e = cc

memory_read : Memory ≡ Read → ⊥
memory_read e = cc

memory_write : Memory ≡ Write → ⊥
memory_write e = cc

-- A reader that has ended, or has not where another stage broke off.
pub stages_count :
    (end : Option (Result Tail Fault)) (starved broken : Bool) (read read' put put' : ℕ) → CountsEnd end (read, read') → CountsPut broken (put, put')
    → (broken ≡ false → starved ≡ false → (end ≡ None → ⊥)) → ((fault : Fault) → end ≡ Some (Err fault) → fault ≡ Read)
    → CountsBeside (answer_to end starved broken) ((read, read') ∷ []) ((put, put') ∷ [])
stages_count end starved true read read' put put' reads puts over is = record {
  read = λ answers. absurd (write_read answers);
  write = λ _. puts.0;
  no_read = λ none. absurd (none refl);
  no_write = λ none. absurd (none refl);
  rise = ends_rise end read read' reads;
  sinks_rise = puts.1;
}
stages_count end true false read read' put put' reads puts over is = record {
  read = λ answers. absurd (memory_read answers);
  write = λ answers. absurd (memory_write answers);
  no_read = λ none. absurd (none refl);
  no_write = λ none. puts;
  rise = ends_rise end read read' reads;
  sinks_rise = omega (arith, puts);
}
stages_count None false false read read' put put' reads puts over is = absurd (over refl refl refl)
stages_count (Some (Ok tail)) false false read read' put put' reads puts over is = record {
  read = λ answers. absurd answers;
  write = λ answers. absurd answers;
  no_read = λ _. ends_stand tail read read' reads;
  no_write = λ _. puts;
  rise = reads.rise;
  sinks_rise = omega (arith, puts);
}
stages_count (Some (Err fault)) false false read read' put put' reads puts over is = record {
  read = λ answers. reads.read answers;
  write = λ answers. absurd (read_write (sym (is fault refl) ∙ answers));
  no_read = λ none. absurd (none refl);
  no_write = λ _. puts;
  rise = reads.rise;
  sinks_rise = omega (arith, puts);
}

-- Memory was wanting after all was taken.
pub starved_counts : (taken : Result Tail Fault) (reads puts : ℕ × ℕ) → CountsBeside taken (reads ∷ []) (puts ∷ []) → CountsBeside (starved_answer taken) (reads ∷ []) (puts ∷ [])
starved_counts (Ok tail) reads puts h = record {
  read = λ answers. absurd (memory_read answers);
  write = λ answers. absurd (memory_write answers);
  no_read = λ none. absurd (none refl);
  no_write = λ _. h.no_write (λ none. none);
  rise = h.rise;
  sinks_rise = h.sinks_rise;
}
starved_counts (Err fault) reads puts h = h
