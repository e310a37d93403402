-- Without a fault the script decides the status.
use Rattle.std.proofs.Common.{◌≡◌, ℕ, ◌<◌, ◌≤◌, ◌⊎◌, inl, inr, List, [], ◌++◌, length, Option, Some, None, Result, Ok, Err, ap, sym, ◌∙◌, arith, length-append, true, nat_lt, refl}
use Rattle.std.proofs.lemmas.List.{append-nil}
use Rattle.rpc_model.specs.declared.script.Mode.TheVariants.{Sim}
use Rattle.rpc_model.specs.declared.script.Cause.TheVariants.{TooLong}
use Rattle.rpc_model.specs.Script.{script}
use Rattle.std.specs.Io.KnownBytes.{Appends}
use Rattle.rpc_model.specs.declared.script.Script.{Script}
use Rattle.rpc_model.specs.declared.script.Cause.{Cause}
use Rattle.brpc_top.specs.Answers.{IsRead, IsReplay, IsReplayStatus, TellsAll, Refuses, IsAccepted, IsRefused, IsDecided, output, status_of}

too_long : (bytes : List ℕ) → 16777216 < length bytes → script Sim bytes ≡ Err (0, TooLong)
unfolding script
too_long bytes h = let over : nat_lt 16777216 (length bytes) ≡ true = grind arith in rw over

-- What was read is judged as all that the source had.
pub same_script : (bytes : List ℕ) (rest : Option (List ℕ)) (read : List ℕ) → IsRead (Some bytes) rest read → script Sim read ≡ script Sim bytes
same_script bytes None read r = absurd r.consumed
same_script bytes (Some ys) read r =
    let parts : bytes ≡ read ++ ys = r.consumed in
    elim (le_or_more (length read)) [
      | inl few ↦ let all : ys ≡ [] = r.to_the_end few in ap (script Sim) (sym (append-nil read) ∙ ap (λ (l : List ℕ). read ++ l) (sym all) ∙ sym parts)
      | inr more ↦ too_long read more ∙ sym (too_long bytes (omega (arith, ap length parts, length-append read ys, more)))
    ]
  where
    le_or_more : (n : ℕ) → (n ≤ 16777216) ⊎ (16777216 < n)
    le_or_more n = grind arith

ok-err : {X Y : Type 0} (r : Result X Y) (x : X) (y : Y) → r ≡ Ok x → r ≡ Err y → ⊥
ok-err r x y p q = cc

accepted-refused : (left rest held written : Option (List ℕ)) → IsAccepted left → Refuses left rest held written → ⊥
accepted-refused None rest held written accepted r = accepted
accepted-refused (Some bytes) rest held written accepted r = ok-err (script Sim bytes) accepted.0 (r.1, r.2) accepted.1 (sym (same_script bytes rest r.0 r.3) ∙ r.4)

refused-told : (left rest held written : Option (List ℕ)) → IsRefused left → TellsAll left rest held written → ⊥
refused-told None rest held written refused t = refused
refused-told (Some bytes) rest held written refused t = ok-err (script Sim bytes) t.1 refused.0 (sym (same_script bytes rest t.0 t.2) ∙ t.3) refused.1

-- The script decides the status, by what the status says.
pub decided : (left rest held written : Option (List ℕ)) (status : ℕ) → IsReplayStatus status → (status ≡ 0 → TellsAll left rest held written)
    → (status ≡ 5 → Refuses left rest held written) → IsDecided left status
decided left rest held written status (inl done) tells refuses =
    record { complete = λ accepted no_read no_write. inl done; refuses_all = λ refused no_read no_write. absurd (refused-told left rest held written refused (tells done)) }
decided left rest held written status (inr (inl read)) tells refuses =
    record { complete = λ accepted no_read no_write. absurd (no_read read); refuses_all = λ refused no_read no_write. absurd (no_read read) }
decided left rest held written status (inr (inr (inl write))) tells refuses =
    record { complete = λ accepted no_read no_write. absurd (no_write write); refuses_all = λ refused no_read no_write. absurd (no_write write) }
decided left rest held written status (inr (inr (inr (inl bad)))) tells refuses =
    record { complete = λ accepted no_read no_write. absurd (accepted-refused left rest held written accepted (refuses bad)); refuses_all = λ refused no_read no_write. inl bad }
decided left rest held written status (inr (inr (inr (inr memory)))) tells refuses = record { complete = λ accepted no_read no_write. inr memory; refuses_all = λ refused no_read no_write. inr memory }

-- All of the output was written, and no count of faults rose: the script has given the status.
pub all_written : {K : Type 0} (left rest : Option (List ℕ)) (reads_before reads_now : ℕ) (held written : Option (List ℕ))
    (writes_before writes_now : ℕ) (sink_before sink_now : K) (bytes : List ℕ) (status : ℕ)
    → IsRead left rest bytes → reads_now ≡ reads_before → writes_now ≡ writes_before → Appends held written (output (script Sim bytes)) → status ≡ status_of (script Sim bytes)
    → IsReplay left rest reads_before reads_now held written writes_before writes_now sink_before sink_now status
all_written left rest reads_before reads_now held written writes_before writes_now sink_before sink_now bytes status read no_read no_write appends e = by (script Sim bytes) refl appends e
  where
    by : (said : Result Script (ℕ × Cause)) → script Sim bytes ≡ said → Appends held written (output said) → status ≡ status_of said
        → IsReplay left rest reads_before reads_now held written writes_before writes_now sink_before sink_now status
    by (Ok accepted) said text is = record {
      known = inl is;
      tells_all = λ done. (bytes, accepted, read, said, text);
      refuses = λ refused. absurd (omega (arith, is, refused));
      read_fault = λ fault. absurd (omega (arith, is, fault));
      no_read_fault = λ other. no_read;
      nothing_written = λ fault. absurd (omega (arith, is, fault));
      write_fault = λ fault. absurd (omega (arith, is, fault));
      no_write_fault = λ other. no_write;
      part_written = λ fault. absurd (omega (arith, is, fault));
      memory = λ short. absurd (omega (arith, is, short));
    }
    by (Err fault) said text is = record {
      known = inr (inr (inr (inl is)));
      tells_all = λ done. absurd (omega (arith, is, done));
      refuses = λ refused. (bytes, fault.0, fault.1, read, said, text);
      read_fault = λ stopped. absurd (omega (arith, is, stopped));
      no_read_fault = λ other. no_read;
      nothing_written = λ stopped. absurd (omega (arith, is, stopped));
      write_fault = λ stopped. absurd (omega (arith, is, stopped));
      no_write_fault = λ other. no_write;
      part_written = λ stopped. absurd (omega (arith, is, stopped));
      memory = λ short. absurd (omega (arith, is, short));
    }
