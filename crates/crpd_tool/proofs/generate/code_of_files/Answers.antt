use Rattle.std.proofs.Common.{◌∙◌, ap, refl, subst}
use Rattle.crpd_io.specs.FilesInMemory.{file_named}
use Rattle.crpd_io.specs.Outside.{Contents}
use Rattle.crpd_input.specs.Reading.{code_in}
use Rattle.crpd_input.specs.Steps.{Means}
use Rattle.crpd_tool.specs.Generate.{contents_of_files, made_name}
use Rattle.crpd_tool.proofs.MadeFiles.{contents_are}
use Rattle.crpd_io.proofs.Logs.{stated_agrees}
use Rattle.crpd_tool.proofs.generate.code_of_files.Goals as goal

pub returns-clause-exact : goal.returns-clause-exact
returns-clause-exact c =
    let files = c.in_ok-kept.kept.files.items in
    subst (λ (contents : Contents).
    Means (code_in contents made_name c.args.set.now) c.load_code.result)
    (contents_are files ∙ ap contents_of_files c.in_ok-kept.ensures)
    (c.load_code.ensures.exact (file_named files)
    (stated_agrees c.load_code.ensures.files.3 (file_named files) refl))
