-- What the lines of settings say.
use Rattle.std.proofs.Common.{◌≡◌, ℕ, ◌==◌, List, [], ◌∷◌, ◌++◌, Some, None, Ok, refl, codes}
use Rattle.std.specs.List.{slice_split}
use Rattle.rpc_model.specs.declared.chan.Chan.{Chan}
use Rattle.rpc_model.specs.declared.chan.Chan.TheVariants as chan
use Rattle.rpc_model.specs.declared.kinds.MapKind.{MapKind}
use Rattle.rpc_model.specs.declared.kinds.MapKind.TheVariants as map_kind
use Rattle.rpc_model.specs.declared.kinds.MergeKind.{MergeKind}
use Rattle.rpc_model.specs.declared.kinds.MergeKind.TheVariants as merge_kind
use Rattle.rpc_model.specs.declared.script.Act.{Act}
use Rattle.rpc_model.specs.declared.script.Mode.TheVariants.{Sim}
use Rattle.rpc_model.specs.Words.{is_name, new_name, known_name, server_names, number_or, wait}
use Rattle.rpc_model.specs.ChannelWords.{map_word, merge_word, sub_word}
use Rattle.rpc_model.specs.SettingLines.{open_line}
use Rattle.rpc_model.specs.ChannelLines.{leaf_line, par_line, sel_line}
use Rattle.rpc_model.specs.Before.{Before, nothing}
use Rattle.rpc_model.specs.Lines.{fixed_line, par_head, sel_head, words_say, line_says}
use Rattle.rpc_model.specs.Script.{lines_say}
use Rattle.script_gen.specs.Generator.{setting_lines}

abbrev pub open_text : List ℕ
open_text = codes "open 64"

abbrev pub x_text : List ℕ
x_text = codes "leaf x a,b,c retry=2 backup=50 timeout=400"

abbrev pub y_text : List ℕ
y_text = codes "leaf y b,c retry=1 backup=-1 timeout=300"

abbrev pub p_text : List ℕ
p_text = codes "par p fail=2 ok=0 timeout=600 x:index:cat y:same:cat x:split:cat"

abbrev pub s_text : List ℕ
s_text = codes "sel s retry=1 timeout=-1 p x"

abbrev pub x_chan : Chan MapKind MergeKind
x_chan = chan.Leaf (record { servers = 0 ∷ 1 ∷ 2 ∷ []; retry = 2; backup = Some 50; timeout = Some 400 })

abbrev pub y_chan : Chan MapKind MergeKind
y_chan = chan.Leaf (record { servers = 1 ∷ 2 ∷ []; retry = 1; backup = None; timeout = Some 300 })

abbrev pub p_chan : Chan MapKind MergeKind
p_chan = chan.Par (record {
  subs = (record { map = map_kind.Index; merge = merge_kind.Cat; chan = 0 }) ∷ (record { map = map_kind.Same; merge = merge_kind.Cat; chan = 1 }) ∷
      (record { map = map_kind.Split; merge = merge_kind.Cat; chan = 0 }) ∷ [];
  fail = 2;
  ok = 0;
  timeout = Some 600;
})

abbrev pub s_chan : Chan MapKind MergeKind
s_chan = chan.Sel (record { subs = 2 ∷ 0 ∷ []; retry = 1; timeout = None })

abbrev pub with_chans : List (List ℕ) → List (List ℕ) → List (Chan MapKind MergeKind) → Before
with_chans names servers chans = record { mode = Sim; slots = Some 64; names = names; servers = servers; chans = chans; serves = []; acts = [] }

-- what stands after the settings and these lines
abbrev pub settled : List Act → Before
settled acts = record {
  mode = Sim;
  slots = Some 64;
  names = codes "x" ∷ codes "y" ∷ codes "p" ∷ codes "s" ∷ [];
  servers = codes "a" ∷ codes "b" ∷ codes "c" ∷ [];
  chans = x_chan ∷ y_chan ∷ p_chan ∷ s_chan ∷ [];
  serves = [];
  acts = acts;
}

abbrev abc : List (List ℕ)
abc = codes "a" ∷ codes "b" ∷ codes "c" ∷ []

open-says : line_says (nothing Sim) open_text ≡ Ok (with_chans [] [] [])
unfolding line_says words_say fixed_line open_line number_or
open-says = refl

x-says : line_says (with_chans [] [] []) x_text ≡ Ok (with_chans (codes "x" ∷ []) abc (x_chan ∷ []))
unfolding line_says words_say fixed_line leaf_line new_name is_name server_names number_or wait
x-says = refl

y-says : line_says (with_chans (codes "x" ∷ []) abc (x_chan ∷ [])) y_text ≡ Ok (with_chans (codes "x" ∷ codes "y" ∷ []) abc (x_chan ∷ y_chan ∷ []))
unfolding line_says words_say fixed_line leaf_line new_name is_name server_names number_or wait
y-says = refl

p-says : line_says (with_chans (codes "x" ∷ codes "y" ∷ []) abc (x_chan ∷ y_chan ∷ [])) p_text ≡ Ok (with_chans (codes "x" ∷ codes "y" ∷ codes "p" ∷ []) abc (x_chan ∷ y_chan ∷ p_chan ∷ []))
unfolding line_says words_say par_head par_line new_name known_name is_name number_or wait map_word merge_word sub_word
p-says = refl

s-says : line_says (with_chans (codes "x" ∷ codes "y" ∷ codes "p" ∷ []) abc (x_chan ∷ y_chan ∷ p_chan ∷ [])) s_text ≡ Ok (settled [])
unfolding line_says words_say sel_head sel_line new_name known_name is_name number_or wait
s-says = refl

-- The settings are read.
pub settings-say : (lines : List (List ℕ)) → lines_say 1 (nothing Sim) (open_text ∷ x_text ∷ y_text ∷ p_text ∷ s_text ∷ lines) ≡ lines_say 6 (settled []) lines
settings-say lines = rw (open-says, x-says, y-says, p-says, s-says) refl

-- The settings are cut into lines.
pub settings-cut : (rest : List ℕ) → slice_split (λ b. b == 10) (setting_lines ++ rest) ≡ open_text ∷ x_text ∷ y_text ∷ p_text ∷ s_text ∷ slice_split (λ b. b == 10) rest
unfolding setting_lines
settings-cut rest = refl
