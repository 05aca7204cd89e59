-- `edge_table::edge_table` meets its contract: each edge is computed, so this proof opens every definition. Assumes nothing.
use mathlib.Core.Path.{refl}
use Rattle.decode.specs.Manual.{signed, immediate_u}
use Rattle.decode.specs.Decode.{i_imm, s_imm, b_imm, u_imm, j_imm, system_class, opcodes, form_of, decode_of}
use Rattle.expand.specs.Rows.{is_reg_shift, row_as, row_of}
use Rattle.expand.specs.Expand.{later, expansion_of, follows}
use Rattle.interp.specs.Values.{signed_right, shift_at, sum, alu_value, upper_value, stage_amount, load_value, store_width, store_value, branch_taken, quarter_on, row_count}
use Rattle.interp.specs.Machine.{loaded, start_of, words, flat}
use Rattle.interp.specs.Cycle.{alu_flags, alu_arm, stage_effect, stage_arm, load_flag, load_arm, store_arm, branch_arm, upper_arm, jump_arm, system_arm, arm_of, padding_arm, record_of, scratched, regs_after, ram_after, commit, step_at, live, frozen_at, padding}
use Rattle.interp.specs.Calls.{recorded, end}
use Rattle.interp.specs.Execute.{live_count_of, doubled, executed, execution_for, execute_of}
use Rattle.lines.specs.Text.{digits}
use Rattle.lines.specs.Lines.{number_text, line_of, lines_of, answer_text}
use Rattle.trace_answer.specs.Trace.{word_at, words_from, inputs_from, malformed, told_of, trace_of}
use Rattle.edge_table.specs.Edges.{Edges}
use Rattle.edge_table.proofs.edge_table.Goals as goal

edges : Edges
unfolding signed immediate_u digits number_text line_of lines_of answer_text word_at words_from inputs_from malformed told_of trace_of i_imm s_imm b_imm u_imm j_imm system_class opcodes form_of decode_of is_reg_shift row_as row_of later expansion_of follows signed_right shift_at sum alu_value upper_value stage_amount load_value store_width store_value branch_taken quarter_on row_count loaded start_of words flat alu_flags alu_arm stage_effect stage_arm load_flag load_arm store_arm branch_arm upper_arm jump_arm system_arm arm_of padding_arm record_of scratched regs_after ram_after commit step_at live frozen_at padding recorded end live_count_of doubled executed execution_for execute_of
edges = record { m1 = refl; m2 = (refl, refl); m3 = (refl, refl); m4 = refl; m5 = (refl, refl); m6 = refl; m7 = refl; m8 = refl; m9 = (refl, refl, refl); m10 = (refl, refl) }

pub returns : goal.returns
returns c = edges
