-- `contents::bodies::Bodies::body` meets its contract: the offset that is listed and the length that the entry gives.
use mathlib.Core.Path.{refl, ◌∙◌}
use Rattle.contents.specs.Contents.{body_of}
use Rattle.contents.proofs.ContentLaws.{offset_listed, entry_within}
use Rattle.contents.proofs.bodies.Bodies.body.Goals as goal

pub body-requires : goal.body-requires
body-requires c =
    let a = c.args in
    let l = a.self.located in
    rw (offset_listed a.self.file.now a.self.offsets.at a.i l.at c.requires, c.length_at.ensures.0)
    (entry_within a.self.file.now l.contents a.i c.requires)

pub returns : goal.returns
unfolding body_of
returns c =
    let a = c.args in
    let l = a.self.located in
    c.body.ensures ∙ rw (offset_listed a.self.file.now a.self.offsets.at a.i l.at c.requires, c.length_at.ensures.0) refl
