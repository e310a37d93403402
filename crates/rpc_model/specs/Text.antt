-- The output lines of a replay and of a refusal. This project's own choice.
use Rattle.std.specs.Prelude.{ℕ, List, [], ◌∷◌, ◌++◌, flat_map, codes}
use Rattle.std.specs.Fmt.{decimal}
use Rattle.rpc_model.specs.declared.event.End.TheVariants.{Good, Bad}
use Rattle.rpc_model.specs.declared.told.Told.{Told}
use Rattle.rpc_model.specs.declared.told.Told.TheVariants.{Ended, Unended, Full, Gone}
use Rattle.rpc_model.specs.declared.script.Cause.{Cause}
use Rattle.rpc_model.specs.declared.script.Cause.TheVariants.{TooLong, LineTooLong, BadByte, BadLine, SimOnly, LiveOnly, BadNumber, BadOption}
use Rattle.rpc_model.specs.declared.script.Cause.TheVariants.{BadName, DupName, NoName, BadSub, BadTag, BadWord, DupCall, NoCall, BadAttempt, TextTooLong}
use Rattle.rpc_model.specs.declared.script.Cause.TheVariants.{Late, MissingPart, TooDeep, TooWide, TooMany, TooMuch}

-- a text as a word: the empty text is written as a dash
abbrev pub text_word : List ℕ → List ℕ
text_word [] = codes "-"
text_word (b ∷ bs) = b ∷ bs

abbrev pub told_line : Told → List ℕ
told_line (Ended call (Good text) attempts) = decimal call ++ codes " ok " ++ decimal attempts ++ codes " " ++ text_word text ++ codes "\n"
told_line (Ended call (Bad code) attempts) = decimal call ++ codes " fail " ++ decimal code ++ codes " " ++ decimal attempts ++ codes "\n"
told_line (Unended call) = decimal call ++ codes " open\n"
told_line (Full call) = decimal call ++ codes " full\n"
told_line (Gone call) = decimal call ++ codes " gone\n"

unfoldable pub told_text : List Told → List ℕ
told_text told = flat_map told_line told

abbrev pub cause_word : Cause → List ℕ
cause_word TooLong = codes "TooLong"
cause_word LineTooLong = codes "LineTooLong"
cause_word BadByte = codes "BadByte"
cause_word BadLine = codes "BadLine"
cause_word SimOnly = codes "SimOnly"
cause_word LiveOnly = codes "LiveOnly"
cause_word BadNumber = codes "BadNumber"
cause_word BadOption = codes "BadOption"
cause_word BadName = codes "BadName"
cause_word DupName = codes "DupName"
cause_word NoName = codes "NoName"
cause_word BadSub = codes "BadSub"
cause_word BadTag = codes "BadTag"
cause_word BadWord = codes "BadWord"
cause_word DupCall = codes "DupCall"
cause_word NoCall = codes "NoCall"
cause_word BadAttempt = codes "BadAttempt"
cause_word TextTooLong = codes "TextTooLong"
cause_word Late = codes "Late"
cause_word MissingPart = codes "MissingPart"
cause_word TooDeep = codes "TooDeep"
cause_word TooWide = codes "TooWide"
cause_word TooMany = codes "TooMany"
cause_word TooMuch = codes "TooMuch"

-- what is written of a script that is refused: the line, counted from 1, and the cause
abbrev pub refused_text : ℕ → Cause → List ℕ
refused_text line cause = codes "refused " ++ decimal line ++ codes " " ++ cause_word cause ++ codes "\n"
