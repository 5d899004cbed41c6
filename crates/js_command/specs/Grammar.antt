-- The words that the program takes, as a grammar for `clap`: `check FORMAT INSTANCE ENTRY [URI FILE]...`,
-- `suite SUITE [URI FILE]...`, `places [URI FILE]...`.
use Rattle.std.specs.Prelude.{Some, true, codes}
use Rattle.clap.specs.Lexer.{usize_max}
use Rattle.clap.specs.Words.{App, Rule, Text, new_rule, new_app, with_rule, with_subcommand}
use Rattle.clap.specs.declared.builder.action.ArgAction.TheVariants.{Set, Append}

-- a required word
abbrev pub word_argument : Text → Rule
word_argument name = record (new_rule name) { action = Some Set; required = true }

-- all remaining words
abbrev pub pairs_argument : Rule
pairs_argument = record (new_rule (codes "PAIRS")) {
  action = Some Append;
  range = Some (record { start_inclusive = 0; end_inclusive = usize_max });
}

abbrev pub check_command : App
check_command = with_rule (with_rule (with_rule (with_rule (new_app (codes "check")) (word_argument (codes "FORMAT")))
    (word_argument (codes "INSTANCE"))) (word_argument (codes "ENTRY"))) pairs_argument

abbrev pub suite_command : App
suite_command = with_rule (with_rule (new_app (codes "suite")) (word_argument (codes "SUITE"))) pairs_argument

abbrev pub places_command : App
places_command = with_rule (new_app (codes "places")) pairs_argument

-- the program's name isn't among the words, and no word asks for help or for the version
abbrev pub program : App
program =
    let a = new_app (codes "jschema") in
    record a {
      top = record a.top {
        no_binary_name = true;
        disable_help_flag = true;
        disable_version_flag = true;
        disable_help_subcommand = true;
        subcommand_required = true;
      };
    }

abbrev pub grammar : App
grammar = with_subcommand
    (with_subcommand (with_subcommand program check_command.top) suite_command.top) places_command.top
