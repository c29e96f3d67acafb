-- The parts of a code stand in an image of it.
use Rattle.std.proofs.Common.{◌≡◌, ℕ, ◌+◌, ◌*◌, ◌<◌, ◌≤◌, List, length, arith}
use Rattle.rv_isa.specs.declared.instr.Instr.{Instr}
use Rattle.layout_params.specs.Parameters.{Settings}
use Rattle.sil_base.specs.declared.places.TheConstants.{FIRST_WORD}
use Rattle.sil_micro.specs.Codes.{MicroCode}
use Rattle.image_file.specs.Image.{Image}
use Rattle.rv_straight.specs.Code.{AreInstrs, StandAt, IsApart}
use Rattle.rv_emit.specs.Code.{first_op, last_place, whole_code}
use Rattle.rv_emit.proofs.Parted.{IsPart}
use Rattle.rv_emit.proofs.Words.{stands}
use Rattle.rv_emit.proofs.Placed.{place_first, last_near}
use Rattle.rv_emit.proofs.Images.{IsEmitted}
use Rattle.rv_emit.proofs.Free.{free_before}

module _ {image : Image} {settings : Settings} {c : MicroCode} (em : IsEmitted image settings c) where
  -- a part at its place
  pub part_stands : (k place : ℕ) (part : List Instr) → IsPart (whole_code settings c) k part → AreInstrs part → FIRST_WORD + 4 * k ≡ place → StandAt image.words place part
  part_stands k place part p have at = stands image.words (whole_code settings c) part k place em.words p have at

  -- a part before the operations
  pub apart : (k place : ℕ) (part : List Instr) → IsPart (whole_code settings c) k part → AreInstrs part → FIRST_WORD + 4 * k ≡ place → 0 < length part → place + 4 * length part ≤ first_op settings.sizes.descr (length c.entries) → IsApart image (last_place settings c) place part
  apart k place part p have at some front =
      let least = place_first settings c (length c.ops) in
      let near = last_near settings c em.can in
      record {
        stands = part_stands k place part p have at;
        free = λ q low high. free_before em q (omega arith);
        some = some;
        low = omega arith;
        even = omega arith;
      }
