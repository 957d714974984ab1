-- The readings of words that are written out.
use Rattle.std.proofs.Common.{◌≡◌, refl, ℕ, [], ◌∷◌, Option, Some, None, codes}
use Rattle.command_line.specs.Words.{Text}
use Rattle.command_line.specs.Parts.{parts_after}
use Rattle.command_line.specs.Command.{Command, trace, query, command_of}

-- each file
abbrev ab : ℕ → Option Command
ab workers = Some (query (codes "a") (codes "b") workers)

-- `trace` and a file
abbrev traced : Text → Option Command
traced file = Some (trace file)

no_words : command_of [] ≡ None
no_words = refl

an_empty_word : command_of ([] ∷ []) ≡ None
an_empty_word = refl

a_hyphen : command_of (codes "-" ∷ []) ≡ None
a_hyphen = refl

no_file : command_of (codes "trace" ∷ []) ≡ None
unfolding parts_after
no_file = refl

an_empty_file : command_of (codes "trace" ∷ [] ∷ []) ≡ None
unfolding parts_after
an_empty_file = refl

an_empty_file_behind_the_end : command_of (codes "trace" ∷ codes "--" ∷ [] ∷ []) ≡ None
unfolding parts_after
an_empty_file_behind_the_end = refl

a_second_end_is_a_file : command_of (codes "trace" ∷ codes "--" ∷ codes "--" ∷ []) ≡ traced (codes "--")
unfolding parts_after
a_second_end_is_a_file = refl

an_end_alone : command_of (codes "trace" ∷ codes "--" ∷ []) ≡ None
unfolding parts_after
an_end_alone = refl

an_end_behind_the_file : command_of (codes "trace" ∷ codes "x" ∷ codes "--" ∷ []) ≡ traced (codes "x")
unfolding parts_after
an_end_behind_the_file = refl

a_file_named_help : command_of (codes "trace" ∷ codes "help" ∷ []) ≡ traced (codes "help")
unfolding parts_after
a_file_named_help = refl

trace_has_no_workers : command_of (codes "trace" ∷ codes "x" ∷ codes "--workers" ∷ codes "2" ∷ []) ≡ None
unfolding parts_after
trace_has_no_workers = refl

short_help : command_of (codes "trace" ∷ codes "x" ∷ codes "-h" ∷ []) ≡ None
unfolding parts_after
short_help = refl

one_file_of_two : command_of (codes "query" ∷ codes "a" ∷ []) ≡ None
unfolding parts_after
one_file_of_two = refl

three_files : command_of (codes "query" ∷ codes "a" ∷ codes "b" ∷ codes "c" ∷ []) ≡ None
unfolding parts_after
three_files = refl

workers_before_the_files : command_of (codes "query" ∷ codes "--workers=4" ∷ codes "a" ∷ codes "b" ∷ []) ≡ ab 4
unfolding parts_after
workers_before_the_files = refl

workers_without_a_number : command_of (codes "query" ∷ codes "a" ∷ codes "b" ∷ codes "--workers" ∷ []) ≡ None
unfolding parts_after
workers_without_a_number = refl

workers_before_the_end : command_of (codes "query" ∷ codes "--workers" ∷ codes "--" ∷ codes "a" ∷ codes "b" ∷ []) ≡ None
unfolding parts_after
workers_before_the_end = refl

an_empty_number : command_of (codes "query" ∷ codes "a" ∷ codes "b" ∷ codes "--workers=" ∷ []) ≡ None
unfolding parts_after
an_empty_number = refl

a_second_equals : command_of (codes "query" ∷ codes "a" ∷ codes "b" ∷ codes "--workers==2" ∷ []) ≡ None
unfolding parts_after
a_second_equals = refl

a_signed_number : command_of (codes "query" ∷ codes "a" ∷ codes "b" ∷ codes "--workers" ∷ codes "+1" ∷ []) ≡ None
unfolding parts_after
a_signed_number = refl

a_number_past_32_bits : command_of (codes "query" ∷ codes "a" ∷ codes "b" ∷ codes "--workers" ∷ codes "4294967297" ∷ []) ≡ None
unfolding parts_after
a_number_past_32_bits = refl

no_workers : command_of (codes "query" ∷ codes "a" ∷ codes "b" ∷ codes "--workers" ∷ codes "0" ∷ []) ≡ None
unfolding parts_after
no_workers = refl

both_forms : command_of (codes "query" ∷ codes "a" ∷ codes "b" ∷ codes "--workers=2" ∷ codes "--workers" ∷ codes "2" ∷ []) ≡ None
unfolding parts_after
both_forms = refl

a_shortened_option : command_of (codes "query" ∷ codes "a" ∷ codes "b" ∷ codes "--work" ∷ codes "2" ∷ []) ≡ None
unfolding parts_after
a_shortened_option = refl

an_option_behind_the_end : command_of (codes "query" ∷ codes "--" ∷ codes "--workers" ∷ codes "2" ∷ [])
    ≡ Some (query (codes "--workers") (codes "2") 1)
unfolding parts_after
an_option_behind_the_end = refl

another_case : command_of (codes "Trace" ∷ codes "x" ∷ []) ≡ None
another_case = refl
