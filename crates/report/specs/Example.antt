-- Document 01's worked body, by computation: its bytes through the definitions of reader, walk, tables and text give its report, byte by byte. Assumes nothing.
use Rattle.std.specs.Prelude.{◌≡◌, refl, List, [], ◌∷◌, ◌++◌, false, ℕ, replicate}
use Rattle.refs.specs.declared.Counts.{Counts}
use Rattle.body.specs.declared.Answer.TheVariants as reading
use Rattle.lex.specs.Text.{text, digits_from, number_of, split, parts_from, before, same}
use Rattle.forms.specs.Form.{key_of, forms, worded, fits, index_of, form_of, form_at, kind_at, letter_of, optional_of, binary_of, unary_of, tag_of, tagged_of, pair_of, read_as, field_at, cells_from, start_of, count_of, parse_line, store, store_from, fill}
use Rattle.refs.specs.Refs.{form_in, first_in, count_in, levels_in, user_in, name_in, tag_in, value_in, refers_to, is_child, is_type, is_expr, is_typed, is_last, stands, is_free, is_local, is_res, right, levels_of, larger, taken, refs_from, same_values, is_same, is_repeated}
use Rattle.body.specs.Body.{in_order, limit_of, counted, base_of, deeper, levels_over, is_deep, advance, put_row, repeats, placed, judged, step_of, is_ahead, first_ahead, finish_of, lines_from, body_of}
use Rattle.body.specs.Body as body
use Rattle.theory.specs.Rules.{choose, split as part, at_var, act, pass, leads, seek, bind, unify}
use Rattle.theory.specs.Program.{drawn, appended, emitted, written, refused, marking, raised, interned, solve, run, ◌>>=◌}
use Rattle.theory.specs.Start.{start}
use Rattle.type_table.specs.Memory.{shape_of}
use Rattle.nodes.specs.Nodes.{count_behind, maybe_type, maybe_node, bin_op, un_op, res_of, item, numbers_from, node_of, node_at, field_of, declared_at, let_at, block_at, type_row_of, type_row_at, fn_line, output_of, named_from, field_type, binds_for, method_in, method_from, failed_from, segment_name, segment_res}
use Rattle.record.specs.Own.{extra_of, blank, typed, marked, resolved}
use Rattle.record.specs.Steps.{change, set_node_type, set_extra, set_final, node_type_lem, shape_of_lem, all_types, output, new_infer_var, array_of, ref_to_lem, fn_def_lem, instance, param_type, make_lambda, make_function, mark_var, error, equation, for_each}
use Rattle.rules.specs.Rules.{equate_for, equate_on, bin_op_lem, local_type, type_res, whole_path, path}
use Rattle.walk.specs.Walk.{two, typeck_expr_bin_op, typeck_local, typeck_stmt, stmt, stmts, tail, typeck_block, typeck_rule, typeck_expr}
use Rattle.resolve.specs.Resolve.{declare_types, param, params, result, typeck, end_of, drawn_as, variable_type, resolve_variable, resolve_type_variable, resolve_node, resolve_nodes, type_body}
use Rattle.tables.specs.Read.{made_at}
use Rattle.tables.specs.Rows.{cells_to, cells_of}
use Rattle.tables.specs.Types.{type_rows}
use Rattle.tables.specs.Vars.{var_row}
use Rattle.errors.specs.Rows.{row_at, error_rows}
use Rattle.answers.specs.Lent.{Lent, too_short, filled, Held}
use Rattle.checker.specs.Check.{reading_of, read_by, check_of}
use Rattle.checker.specs.Check as check
use Rattle.output.specs.Output.{digits_of}
use Rattle.error_lines.specs.ErrorLines.{each_text, error_text, error_line, error_lines}
use Rattle.report_text.specs.Lines.{answer_line, type_line, type_lines, var_line, var_lines, node_line, tables_text}
use Rattle.report_text.specs.Written.{text_of}

-- its input
abbrev pub example : List ℕ
example = text "node=param,8\nnode=int\nnode=let,-,1\nnode=path,l0,1,7:l0\nnode=path,l2,1,9:l2\nnode=bin,a,3,4\nnode=block,5,2\nfn=8,6,0\n"

-- its output
abbrev pub example_output : List ℕ
example_output = text "answer=0,-\ntypes=1\ntype=var,0\nvars=1\nvar=int,8,-\nnode=8,8,-\nnode=14,8,-\nnode=14,8,14\nnode=8,8,l0\nnode=14,8,l2\nnode=8,8,-\nnode=8,8,-\nerrors=0\n"

-- the text of an answer and its tables
abbrev pub told_of_lem : Held → List ℕ
told_of_lem h = text_of h.answer h.tables.nodes h.tables.vars h.tables.types (row_at h.tables.errors)

-- its counts
abbrev counts : Counts
counts = record { types = 0; defs = 0; insts = 0; binds = 0; nodes = 7; fields = 17 }

-- its lines as the reader has them, seven nodes and `fn`: form, first field, number of fields, levels, and the field that uses a node, plus 1
abbrev lines : List ℕ
lines =
    replicate 4480 0
    ++ (26 ∷ 0 ∷ 1 ∷ 1 ∷ 17 ∷ [])
    ++ (8 ∷ 1 ∷ 0 ∷ 1 ∷ 3 ∷ [])
    ++ (25 ∷ 1 ∷ 2 ∷ 2 ∷ 14 ∷ [])
    ++ (28 ∷ 3 ∷ 3 ∷ 1 ∷ 11 ∷ [])
    ++ (28 ∷ 6 ∷ 3 ∷ 1 ∷ 12 ∷ [])
    ++ (11 ∷ 9 ∷ 3 ∷ 2 ∷ 13 ∷ [])
    ++ (24 ∷ 12 ∷ 2 ∷ 3 ∷ 16 ∷ [])
    ++ replicate 5085 0
    ++ (29 ∷ 14 ∷ 3 ∷ 3 ∷ 0 ∷ [])

-- their fields: name, tag and value
abbrev fields : List ℕ
fields =
    (0 ∷ 1 ∷ 8 ∷ [])
    ++ (0 ∷ 0 ∷ 0 ∷ 0 ∷ 1 ∷ 1 ∷ [])
    ++ (0 ∷ 1 ∷ 0 ∷ 0 ∷ 1 ∷ 1 ∷ 7 ∷ 1 ∷ 0 ∷ [])
    ++ (0 ∷ 1 ∷ 2 ∷ 0 ∷ 1 ∷ 1 ∷ 9 ∷ 1 ∷ 2 ∷ [])
    ++ (0 ∷ 1 ∷ 2 ∷ 0 ∷ 1 ∷ 3 ∷ 0 ∷ 1 ∷ 4 ∷ [])
    ++ (0 ∷ 1 ∷ 5 ∷ 0 ∷ 1 ∷ 2 ∷ [])
    ++ (0 ∷ 1 ∷ 8 ∷ 0 ∷ 1 ∷ 6 ∷ 0 ∷ 1 ∷ 0 ∷ [])
    ++ replicate 94665 0

-- the reader makes these of it
pub reading_is : reading_of example ≡ body.held (reading.Body counts) lines fields
unfolding reading_of digits_from number_of split parts_from before same key_of forms worded fits index_of form_of form_at kind_at letter_of optional_of binary_of unary_of tag_of tagged_of pair_of read_as field_at cells_from start_of count_of parse_line store store_from fill form_in first_in count_in levels_in user_in name_in tag_in value_in refers_to is_child is_type is_expr is_typed is_last stands is_free is_local is_res right levels_of larger taken refs_from same_values is_same is_repeated in_order limit_of counted base_of deeper levels_over is_deep advance put_row repeats placed judged step_of is_ahead first_ahead finish_of lines_from body_of body.count_of
reading_is = refl

-- walked, its final types found and the tables filled, the text is the output
pub text_is : (l : Lent) → told_of_lem (check.typed counts lines fields l) ≡ example_output
unfolding shape_of form_in first_in count_in levels_in user_in name_in tag_in value_in refers_to is_child is_type is_expr is_typed is_last stands is_free is_local is_res right levels_of larger taken refs_from same_values is_same is_repeated choose part at_var act pass leads seek bind unify drawn appended emitted written refused marking raised interned solve run ◌>>=◌ start count_behind maybe_type maybe_node bin_op un_op res_of item numbers_from node_of node_at field_of declared_at let_at block_at type_row_of type_row_at fn_line output_of named_from field_type binds_for method_in method_from failed_from segment_name segment_res extra_of blank typed marked resolved change set_node_type set_extra set_final node_type_lem shape_of_lem all_types output new_infer_var array_of ref_to_lem fn_def_lem instance param_type make_lambda make_function mark_var error equation for_each equate_for equate_on bin_op_lem local_type type_res whole_path path two typeck_expr_bin_op typeck_local typeck_stmt stmt stmts tail typeck_block typeck_rule typeck_expr declare_types param params result typeck end_of drawn_as variable_type resolve_variable resolve_type_variable resolve_node resolve_nodes type_body made_at cells_to cells_of type_rows var_row error_rows filled digits_of each_text error_text error_line error_lines answer_line type_line type_lines var_line var_lines node_line tables_text text_of check.typed
text_is l = refl

-- what is lent is long enough: 1 and 2 are not answered
pub checked : (l : Lent) → too_short l ≡ false → check_of example l ≡ (let h = reading_of example in read_by h.answer h.rows h.cells l)
unfolding check_of
checked l h = rw h
