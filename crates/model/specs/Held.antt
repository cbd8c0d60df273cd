-- What the running heap holds.
use Rattle.std.specs.Prelude.{Bool, false, ◌&&◌, vec_items}
use Rattle.layout.specs.Shape.{Shape}
use Rattle.model.specs.Edits.{is_root}
use Rattle.model.specs.declared.edits.Edit.{Edit}
use Rattle.model.specs.declared.edits.Edit.TheVariants.{New, Set, Get, Put, Peek, Copy, Clear, Same, Head}
use Rattle.image.specs.Content.{Content, Object}
use Rattle.model.specs.declared.object.Object.TheInside.{Inside as Held}
use Rattle.model.specs.declared.model.Model.TheInside.{Inside}

abbrev pub object_of : Held → Object
object_of o = record { header = o.header; body = vec_items o.body }

-- its roots, and its objects in the order of their numbers
abbrev pub content : {L : Type 0} → Inside L → Content
content m = record { roots = m.roots; objects = vec_items m.objects }

-- whether an edit makes an object; no other takes memory
abbrev pub makes : Shape → Edit → Bool
makes S (New root header) = is_root root && S.legal header
makes S (Set i position k) = false
makes S (Get i position k) = false
makes S (Put i position word) = false
makes S (Peek i position) = false
makes S (Copy i k) = false
makes S (Clear i) = false
makes S (Same i k) = false
makes S (Head i) = false
