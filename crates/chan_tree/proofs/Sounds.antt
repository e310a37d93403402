-- The channels of an accepted script name only channels before them.
use Rattle.std.proofs.Common.{ℕ, suc, ◌<◌, List, [], ◌∷◌, map, arith}
use Rattle.std.specs.Prelude.{All}
use Rattle.rpc_model.specs.declared.chan.Chan.{Chan}
use Rattle.rpc_model.specs.declared.chan.Chan.TheVariants as chan
use Rattle.rpc_model.specs.declared.chan.Sub.{Sub}
use Rattle.rpc_model.specs.Fits.{IsChan, AreChans}
use Rattle.chan_tree.specs.Sound.{AreBefore, IsSound, AreSound}

all-before : (number : ℕ) (subs : List ℕ) → All (λ s. s < number) subs → AreBefore number subs
all-before number [] h = tt
all-before number (s ∷ subs) h = (h 0 s (omega arith), all-before number subs (λ k d less. h (suc k) d (omega (arith, less))))

module _ {M G : Type 0} where
  subs-before : (number : ℕ) (subs : List (Sub M G)) → All (λ (s : Sub M G). s.chan < number) subs → AreBefore number (map (λ (s : Sub M G). s.chan) subs)
  subs-before number [] h = tt
  subs-before number (s ∷ subs) h = (h 0 s (omega arith), subs-before number subs (λ k d less. h (suc k) d (omega (arith, less))))

  pub chan-sound : (servers number : ℕ) (c : Chan M G) → IsChan servers number c → IsSound number c
  chan-sound servers number (chan.Leaf leaf) fit = fit.some_server
  chan-sound servers number (chan.Par par) fit = subs-before number par.subs fit.earlier_subs
  chan-sound servers number (chan.Sel sel) fit = (fit.some_sub, all-before number sel.subs fit.earlier_subs)
  chan-sound servers number (chan.Part part) fit = tt

  pub chans-sound : (servers number : ℕ) (chans : List (Chan M G)) → AreChans servers number chans → AreSound number chans
  chans-sound servers number [] h = tt
  chans-sound servers number (c ∷ chans) h = (chan-sound servers number c h.0, chans-sound servers (suc number) chans h.1)
