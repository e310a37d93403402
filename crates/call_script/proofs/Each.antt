-- Words that are read one after the other.
use Rattle.std.proofs.Common.{◌≡◌, ℕ, ◌+◌, ◌<◌, ◌≤◌, List, [], ◌∷◌, ◌++◌, length, map, drop, get_or, Result, Ok, Err, Bor, refl, sym, ap, ◌∙◌, append_assoc, append-nil}
use Rattle.std.proofs.lemmas.List.{at_drop_more, at_drop_all}
use Rattle.rpc_model.specs.declared.script.Cause.{Cause}
use Rattle.rpc_model.specs.Words.{◌>>=◌, and_others, each}
use Rattle.call_script.specs.declared.fault.LineFault.{LineFault}
use Rattle.call_script.specs.declared.fault.LineFault.TheVariants.{Refused, Memory}
use Rattle.call_script.specs.Judged.{Gives}

module _ {A : Type 0} where
  -- those that are read behind these
  abbrev pub behind : List A → Result (List A) Cause → Result (List A) Cause
  behind before (Ok others) = Ok (before ++ others)
  behind before (Err cause) = Err cause

  abbrev read : List A → Result (List A) Cause
  read all = Ok all

  behind-then : (before : List A) (first : A) (others : Result (List A) Cause) → behind before (and_others others first) ≡ behind (before ++ first ∷ []) others
  behind-then before first (Ok others) = ap read (sym (append_assoc before (first ∷ []) others))
  behind-then before first (Err cause) = refl

  module _ (one : List ℕ → Result A Cause) (before : List A) (words : List (Bor (List ℕ))) (i : ℕ) where
    -- One more is read.
    pub each-next : (d : Bor (List ℕ)) (first : A) → i < length words → one (get_or words i d).now ≡ Ok first
        → behind before (each one (map (λ w. w.now) (drop i words))) ≡ behind (before ++ first ∷ []) (each one (map (λ w. w.now) (drop (i + 1) words)))
    each-next d first h e =
        at_drop_more (λ (ws : List (Bor (List ℕ))). behind before (each one (map (λ w. w.now) ws))) words i d h
        ∙ ap (λ (said : Result A Cause). behind before (said >>= and_others (each one (map (λ w. w.now) (drop (i + 1) words))))) e
        ∙ behind-then before first (each one (map (λ w. w.now) (drop (i + 1) words)))

    -- A bad word.
    pub each-fault : (d : Bor (List ℕ)) (cause : Cause) → i < length words → one (get_or words i d).now ≡ Err cause → behind before (each one (map (λ w. w.now) (drop i words))) ≡ Err cause
    each-fault d cause h e =
        at_drop_more (λ (ws : List (Bor (List ℕ))). behind before (each one (map (λ w. w.now) ws))) words i d h
        ∙ ap (λ (said : Result A Cause). behind before (said >>= and_others (each one (map (λ w. w.now) (drop (i + 1) words))))) e

    -- A word that isn't taken.
    pub each-untaken : {X Y : Type 0} (view : X → A) (seen : Y → List A) (all : Result (List A) Cause) (d : Bor (List ℕ)) (fault : LineFault) → i < length words
        → Gives view (Err fault) (one (get_or words i d).now) → behind before (each one (map (λ w. w.now) (drop i words))) ≡ all → Gives seen (Err fault) all
    each-untaken view seen all d (Refused cause) h refused is = sym is ∙ each-fault d cause h refused
    each-untaken view seen all d Memory h refused is = tt

    -- No word is left.
    pub each-all : length words ≤ i → behind before (each one (map (λ w. w.now) (drop i words))) ≡ Ok before
    each-all h = at_drop_all (λ (ws : List (Bor (List ℕ))). behind before (each one (map (λ w. w.now) ws))) words i h ∙ ap read (append-nil before)
