use Rattle.std.proofs.Common.{Option, Some, ap, map, string_bytes, sym, ◌∙◌}
use Rattle.arrowmem.specs.Command.{command_in}
use Rattle.arrowmem.specs.Words as spec
use Rattle.arrowmem.specs.declared.command.Command.{Command}
use Rattle.arrowmem.proofs.TopLemmas.{query_answers, query_asked, query_lawful, query_table_asked, trace_answers, trace_asked, usage_answers}
use Rattle.arrowmem.proofs.answer.answer.Goals as goal

-- what a command that was read says of the words
abbrev named : Command → Option spec.Command
named command = Some (command_in command)

pub returns-in_ok-extend_from_slice-in-None-clause-answers : goal.returns-in_ok-extend_from_slice-in-None-clause-answers
returns-in_ok-extend_from_slice-in-None-clause-answers g c =
    usage_answers _ _ _ (sym c.in-None.ensures)
    (rw (c.requires, c.as_bytes.ensures.value) at c.in_ok-extend_from_slice-in-None.ensures.items)

pub returns-in-Some-Trace-clause-answers : goal.returns-in-Some-Trace-clause-answers
returns-in-Some-Trace-clause-answers g c =
    trace_answers _ _ c.in-Some-Trace.file.now _ _
    (sym c.in-Some-Trace.ensures ∙ ap named c.in-Some-Trace.field-0-is) c.trace.ensures.answers

pub returns-in-Some-Trace-clause-asked : goal.returns-in-Some-Trace-clause-asked
returns-in-Some-Trace-clause-asked g c = trace_asked (map string_bytes c.args.words.now) _ _ c.in-Some-Trace.file.now
    (sym c.in-Some-Trace.ensures ∙ ap named c.in-Some-Trace.field-0-is) c.trace.ensures.asked

pub returns-in-Some-Query-clause-answers : goal.returns-in-Some-Query-clause-answers
returns-in-Some-Query-clause-answers g c =
    query_answers _ _ c.in-Some-Query.plan.now c.in-Some-Query.table.now _ _
    (sym c.in-Some-Query.ensures ∙ ap named c.in-Some-Query.field-0-is) c.query.ensures.answers

pub returns-in-Some-Query-clause-lawful : goal.returns-in-Some-Query-clause-lawful
returns-in-Some-Query-clause-lawful g c =
    query_lawful _ _ c.in-Some-Query.plan.now c.in-Some-Query.table.now _
    (sym c.in-Some-Query.ensures ∙ ap named c.in-Some-Query.field-0-is) c.query.ensures.lawful

pub returns-in-Some-Query-clause-asked : goal.returns-in-Some-Query-clause-asked
returns-in-Some-Query-clause-asked g c =
    query_asked (map string_bytes c.args.words.now) _ _ c.in-Some-Query.plan.now c.in-Some-Query.table.now
    (sym c.in-Some-Query.ensures ∙ ap named c.in-Some-Query.field-0-is) c.query.ensures.asked

pub returns-in-Some-Query-clause-table_asked : goal.returns-in-Some-Query-clause-table_asked
returns-in-Some-Query-clause-table_asked g c =
    query_table_asked (map string_bytes c.args.words.now) _ _ c.in-Some-Query.plan.now c.in-Some-Query.table.now _
    (sym c.in-Some-Query.ensures ∙ ap named c.in-Some-Query.field-0-is) c.query.ensures.table_asked
