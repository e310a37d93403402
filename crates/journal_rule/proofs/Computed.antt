-- The tables of journals, computed from their texts.
use Rattle.std.proofs.Common.{◌≡◌, [], Some, refl}
use Rattle.std.specs.Fmt.{digits}
use Rattle.hex.specs.Hex.{encode_with, decode_pairs}
use Rattle.rpc_model.specs.Script.{script}
use Rattle.rpc_model.specs.Lines.{line_says, words_say, fixed_line, serve_head, par_head, sel_head, part_head}
use Rattle.rpc_model.specs.ChannelLines.{leaf_line, par_line, sel_line, part_line}
use Rattle.rpc_model.specs.CallLines.{call_line, aim, reply_line, lose_line, cancel_line, tick_line, join_line}
use Rattle.rpc_model.specs.SettingLines.{open_line, new_server, serve_line}
use Rattle.rpc_model.specs.ChannelWords.{map_word, merge_word, kinds_word, sub_word, tag_word}
use Rattle.rpc_model.specs.Words.{number_or, is_name, new_name, known_name, server_names, text, wait, attempt_word, direction_word}
use Rattle.rpc_model.specs.Codes.{retriable}
use Rattle.rpc_model.specs.Text.{told_text}
use Rattle.rpc_model.specs.Versions.{versions, width, offset_of, meaning_of}
use Rattle.journal_text.specs.Drafts.{journal_of, with_pieces, with_line}
use Rattle.journal_text.specs.Reading.{number, line_said, line_of}
use Rattle.journal_rule.specs.Lawful.{broken_parts}
use Rattle.journal_rule.specs.Judged.{texts_break, texts_tell}
use Rattle.journal_rule.specs.Example.{example_script, example_journal, example_ends}
use Rattle.journal_rule.proofs.Table.{AreRows, Tells}
use Rattle.journal_rule.proofs.Journals as table

pub example_breaks : texts_break example_script 1 example_journal ≡ Some []
unfolding script line_says words_say fixed_line serve_head par_head sel_head part_head leaf_line par_line sel_line part_line
    call_line aim reply_line lose_line cancel_line tick_line join_line open_line new_server serve_line map_word merge_word kinds_word sub_word tag_word
    number_or is_name new_name known_name server_names text wait attempt_word direction_word digits encode_with decode_pairs
    journal_of with_pieces with_line number line_said line_of versions width offset_of meaning_of retriable broken_parts
example_breaks = refl

pub example_tells : texts_tell example_script example_journal ≡ Some example_ends
unfolding script line_says words_say fixed_line serve_head par_head sel_head part_head leaf_line par_line sel_line part_line
    call_line aim reply_line lose_line cancel_line tick_line join_line open_line new_server serve_line map_word merge_word kinds_word sub_word tag_word
    number_or is_name new_name known_name server_names text wait attempt_word direction_word digits encode_with decode_pairs
    journal_of with_pieces with_line number line_said line_of versions width offset_of meaning_of retriable told_text
example_tells = refl

-- one call, three calls on two lanes, parallel calls, and a selective one
tables_break : AreRows table.script-1 table.lanes-1 table.journal-1 table.rows-1 × AreRows table.script-2 table.lanes-2 table.journal-2 table.rows-2
    × AreRows table.script-3 table.lanes-3 table.journal-3 table.rows-3 × AreRows table.script-4 table.lanes-4 table.journal-4 table.rows-4
unfolding script line_says words_say fixed_line serve_head par_head sel_head part_head leaf_line par_line sel_line part_line
    call_line aim reply_line lose_line cancel_line tick_line join_line open_line new_server serve_line map_word merge_word kinds_word sub_word tag_word
    number_or is_name new_name known_name server_names text wait attempt_word direction_word digits encode_with decode_pairs
    journal_of with_pieces with_line number line_said line_of versions width offset_of meaning_of retriable broken_parts
tables_break = (refl, refl, refl, refl)

-- what their joins tell
tables_tell : Tells table.script-1 table.journal-1 table.ends-1 × Tells table.script-2 table.journal-2 table.ends-2
    × Tells table.script-3 table.journal-3 table.ends-3 × Tells table.script-4 table.journal-4 table.ends-4
unfolding script line_says words_say fixed_line serve_head par_head sel_head part_head leaf_line par_line sel_line part_line
    call_line aim reply_line lose_line cancel_line tick_line join_line open_line new_server serve_line map_word merge_word kinds_word sub_word tag_word
    number_or is_name new_name known_name server_names text wait attempt_word direction_word digits encode_with decode_pairs
    journal_of with_pieces with_line number line_said line_of versions width offset_of meaning_of retriable told_text
tables_tell = (refl, refl, refl, refl)
