use Rattle.codec_all.proofs.answer_lines.Goals as goal

pub returns : goal.returns
returns g c = c.serve.ensures
