use Rattle.std.proofs.Common.{refl, rules}
use Rattle.crpd_io.proofs.Logs.{adds_none, stated_agrees}
use Rattle.crpd_tool.specs.Output.{bad_words}
use Rattle.crpd_tool.proofs.AskedFiles.{asks_files, asks_nothing}
use Rattle.crpd_tool.proofs.Finish.{exact-from, names_none, out-none, prefix-from, told-from}
use Rattle.crpd_tool.proofs.Finish.{told_exact, told_prefix}
use Rattle.crpd_tool.proofs.front.answer.Goals as goal

pub returns-in_default : goal.returns-in_default
returns-in_default g c = record {
  exact_output = λ whole contents told.
      exact-from c.tell_bad_words.ensures.finished _ contents bad_words (out-none _ contents
      c.in_default.ensures)
      refl refl whole;
  exact_for_answers = λ contents since.
      let is = out-none _ contents c.in_default.ensures in (
        λ whole. exact-from c.tell_bad_words.ensures.finished _ contents bad_words is refl refl
            whole,
        λ fault. prefix-from c.tell_bad_words.ensures.finished _ contents bad_words is refl fault,
      );
  answers_added = adds_none _ _ _ refl;
  asked_files = asks_nothing (g.F.Files.log c.args.files.now) _ c.in_default.ensures;
  read_cause = search rules;
  write_cause = λ is. (
    (c.tell_bad_words.ensures.finished.fault is).0,
    λ contents told. prefix-from c.tell_bad_words.ensures.finished _ contents bad_words
        (out-none _ contents c.in_default.ensures) refl is,
  );
  memory_cause = search rules;
  files_unchanged = search rules;
  counts_rise = search rules;
  appended = search rules;
  files_untouched = search rules;
  generate_untouched = search rules;
  generate_exact = search rules;
  bad_words_only = search rules;
  bad_words = λ none. told-from c.tell_bad_words.ensures.finished;
}

pub returns : goal.returns
returns g c = record {
  exact_output = λ whole contents told.
      told_exact c.write_ending.ensures.told _ contents _ c.in-Some.ensures
      (c.perform-ending.ensures.exact contents
      (stated_agrees c.perform-ending.ensures.files.3 contents told)) whole;
  exact_for_answers = λ contents since.
      let meant = c.perform-ending.ensures.exact contents since in (
        told_exact c.write_ending.ensures.told _ contents _ c.in-Some.ensures meant,
        told_prefix c.write_ending.ensures.told _ contents _ c.in-Some.ensures meant,
      );
  answers_added = c.perform-ending.ensures.files.3;
  asked_files = asks_files _ _ c.in-Some.ensures c.perform-ending.ensures.asks;
  read_cause = search rules;
  write_cause = λ is. (
    (c.write_ending.ensures.told.fault is).1,
    λ contents told. told_prefix c.write_ending.ensures.told _ contents _ c.in-Some.ensures
        (c.perform-ending.ensures.exact contents
        (stated_agrees c.perform-ending.ensures.files.3 contents told)) is,
  );
  memory_cause = search rules;
  files_unchanged = search rules;
  counts_rise = search rules;
  appended = search rules;
  files_untouched = search rules;
  generate_untouched = search rules;
  generate_exact = λ n is contents.
      let meant = c.perform-ending.ensures.any_files
      (names_none _ _ n c.in-Some.ensures is) contents in (
        told_exact c.write_ending.ensures.told _ contents _ c.in-Some.ensures meant,
        told_prefix c.write_ending.ensures.told _ contents _ c.in-Some.ensures meant,
      );
  bad_words_only = λ is. absurd (c.write_ending.ensures.told.of_words is);
  bad_words = search rules;
}
