-- After a yes an undisturbed job completes within a switch and its bound.
use Rattle.std.proofs.Common.{ℕ, List, ◌∙◌}
use Rattle.std.proofs.lemmas.List.{length-map}
use Rattle.crpd_base.specs.declared.data.TaskPart.{TaskPart}
use Rattle.crpd_tool.specs.Shaped.{graphs_of}
use Rattle.cert_check.proofs.Clauses.{as_many}
use Rattle.sound_laws.specs.CheckedCode.{CheckedCodeIsBounded}
use Rattle.crpd_io.specs.Outside.{Contents}
use Rattle.crpd_tool.specs.Undisturbed.{DoneIsBounded}
use Rattle.crpd_tool.proofs.Safety.{done_is_checked}

pub done_is_bounded : CheckedCodeIsBounded → (words : List (List ℕ)) (contents : Contents)
    → DoneIsBounded words contents
done_is_bounded bounded_law words contents set certificate output is out e =
    let found = done_is_checked words contents set certificate output is out e in
    let input = found.shaped.input in
    let graphs = graphs_of found.shaped in
    record {
      input = input;
      stated = found.stated;
      input_is = found.input_is;
      certificate_is = found.certificate_is;
      text_is = found.text_is;
      count =
          length-map found.stated.tasks (λ (t : TaskPart). t.part.bound)
          ∙ as_many input.set graphs found.stated found.checked.ranges.some
          found.checked.says;
      bounded = bounded_law input.set input.code graphs found.stated found.checked;
    }
