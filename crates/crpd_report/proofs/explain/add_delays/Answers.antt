use Rattle.std.proofs.Common.{◌≡◌, [], ◌∷◌, ◌++◌, List, get_or, length, map, ap, subst, ◌∙◌, arith}
use Rattle.std.proofs.Common.{codes, string_bytes, flat_map}
use Rattle.std.specs.Fmt.{decimal}
use Rattle.std.specs.List.{range_with_len}
use Rattle.cert_check.proofs.Names.{part_is}
use Rattle.crpd_base.specs.declared.data.TaskPart.{TaskPart}
use Rattle.crpd_base.proofs.Times.{has_times}
use Rattle.evict_sets.specs.ListedPart.{certified_task}
use Rattle.crpd_report.specs.Explain.{delay_line, delay_lines, delay_of}
use Rattle.crpd_base.specs.Tasks.{task_name}
use Rattle.crpd_report.proofs.CertifiedDelays.{delay_is, has_windows, small}
use Rattle.crpd_report.proofs.Lines.{one_place_more}
use Rattle.crpd_report.proofs.explain.add_delays.Goals as goal

pub charged_delays-delay-requires-clause-times : goal.charged_delays-delay-requires-clause-times
charged_delays-delay-requires-clause-times c = has_times c.args.set.now c.requires.set

pub charged_delays-delay-requires-clause-windows : goal.charged_delays-delay-requires-clause-windows
charged_delays-delay-requires-clause-windows c =
    let tasks = c.args.certificate.now.tasks in
    let ps : c.deref.result.now ≡ map (λ (t : TaskPart). t.part) tasks =
    c.deref.ensures.value ∙ c.in_ok-parts.ensures
    ∙ ap (map (λ (t : TaskPart). t.part)) c.as_slice-tasks.ensures in
    let ws : c.deref-in-loop-place.result.now ≡ map (λ (t : TaskPart). t.window) tasks =
    c.deref-in-loop-place.ensures.value ∙ c.in_ok-windows.ensures
    ∙ ap (map (λ (t : TaskPart). t.window)) c.as_slice-tasks.ensures in
    has_windows c.args.certificate.now c.deref.result.now c.deref-in-loop-place.result.now ps ws
    c.args.set.now (has_times c.args.set.now c.requires.set) c.requires.certificate
    c.loop-place.place
    (omega (
      arith,
      c.loop-place-test.true,
      ap length c.as_slice-tasks.ensures,
      c.requires.certificate.tasks,
    ))

pub charged_delays-delay-requires-clause-w : goal.charged_delays-delay-requires-clause-w
charged_delays-delay-requires-clause-w c =
    let tasks = c.args.certificate.now.tasks in
    let ps : c.deref.result.now ≡ map (λ (t : TaskPart). t.part) tasks =
    c.deref.ensures.value ∙ c.in_ok-parts.ensures
    ∙ ap (map (λ (t : TaskPart). t.part)) c.as_slice-tasks.ensures in
    let ws : c.deref-in-loop-place.result.now ≡ map (λ (t : TaskPart). t.window) tasks =
    c.deref-in-loop-place.ensures.value ∙ c.in_ok-windows.ensures
    ∙ ap (map (λ (t : TaskPart). t.window)) c.as_slice-tasks.ensures in
    let long = ap length c.as_slice-tasks.ensures in
    let at : certified_task c.args.certificate.now c.loop-place.place ≡ c.index-tasks-place.result =
    part_is c.args.certificate.now c.loop-place.place c.index-tasks-place.result
    (omega (arith, c.loop-place-test.true, long))
    (subst (λ (xs : List TaskPart).
    c.index-tasks-place.result ≡ get_or xs c.loop-place.place c.index-tasks-place.result)
    c.as_slice-tasks.ensures c.index-tasks-place.is) in
    small c.args.certificate.now c.deref.result.now c.deref-in-loop-place.result.now ps ws
    c.args.set.now (has_times c.args.set.now c.requires.set) c.requires.certificate
    c.loop-place.place c.index-tasks-place.result
    (omega (arith, c.loop-place-test.true, long, c.requires.certificate.tasks)) at

pub loop-place-preserved : goal.loop-place-preserved
loop-place-preserved c =
    let tasks = c.args.certificate.now.tasks in
    let ps : c.deref.result.now ≡ map (λ (t : TaskPart). t.part) tasks =
    c.deref.ensures.value ∙ c.in_ok-parts.ensures
    ∙ ap (map (λ (t : TaskPart). t.part)) c.as_slice-tasks.ensures in
    let ws : c.deref-in-loop-place.result.now ≡ map (λ (t : TaskPart). t.window) tasks =
    c.deref-in-loop-place.ensures.value ∙ c.in_ok-windows.ensures
    ∙ ap (map (λ (t : TaskPart). t.window)) c.as_slice-tasks.ensures in
    let at : certified_task c.args.certificate.now c.loop-place.place ≡ c.index-tasks-place.result =
    part_is c.args.certificate.now c.loop-place.place c.index-tasks-place.result
    (omega (arith, c.loop-place-test.true, ap length c.as_slice-tasks.ensures))
    (subst (λ (xs : List TaskPart).
    c.index-tasks-place.result ≡ get_or xs c.loop-place.place c.index-tasks-place.result)
    c.as_slice-tasks.ensures c.index-tasks-place.is) in
    let delay : c.charged_delays-delay.result
    ≡ delay_of c.args.set.now c.args.certificate.now c.loop-place.place =
    delay_is c.args.certificate.now c.deref.result.now c.deref-in-loop-place.result.now ps ws
    c.args.set.now c.loop-place.place c.index-tasks-place.result c.charged_delays-delay.result at
    c.charged_delays-delay.ensures in
    one_place_more (delay_line c.args.set.now c.args.certificate.now) (string_bytes c.args.text.now)
    c.loop-place.place (string_bytes c.loop-place.text) (string_bytes c.add_delay.new.text)
    c.loop-place.invariant
    (c.in_ok-add_delay.ensures
    ∙ ap (λ name. string_bytes c.loop-place.text
    ++ (codes "delay " ++ name ++ codes " " ++ decimal c.charged_delays-delay.result ++ 10 ∷ []))
    c.task_name.ensures
    ∙ ap (λ d. string_bytes c.loop-place.text
    ++ (codes "delay " ++ task_name c.args.set.now (record { 0 = c.loop-place.place }) ++ codes " "
    ++ decimal d ++ 10 ∷ [])) delay)

pub returns : goal.returns
unfolding delay_lines
returns c =
    let long : c.loop-place.place ≡ length c.args.set.now.tasks =
    omega (
      arith,
      c.loop-place-test.false,
      c.loop-place.auto.place-end,
      ap length c.as_slice-tasks.ensures,
      c.requires.certificate.tasks,
    ) in
    c.loop-place.invariant ∙ ap
    (λ n. string_bytes c.args.text.now
    ++ flat_map (delay_line c.args.set.now c.args.certificate.now) (range_with_len 0 n)) long
