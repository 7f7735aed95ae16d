use Rattle.elf_reader.proofs.fields.program_header.Goals as goal

pub returns : goal.returns
returns c =
    rw (
      c.word.ensures,
      c.word-2.ensures,
      c.word-3.ensures,
      c.word-4.ensures,
      c.word-5.ensures,
      c.word-6.ensures,
    )
