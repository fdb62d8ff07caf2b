-- `put_bytes` meets its contract: a part that is replaced by as many bytes is stored over.
use mathlib.Core.Path.{◌≡◌, sym, ◌∙◌}
use mathlib.Core.List.{List, append_assoc}
use Prim.Native.Nat.{ℕ, ◌+◌, ◌≤◌}
use native.Mathlib.Omega.{arith}
use lib.ListN.{length, take, drop}
use lib.Seq.{sets, sets-eq}
use borrow.Rule.Slice.PartMut.{put_mid}
use Rattle.std.proofs.lemmas.List.{drop-drop}
use Rattle.sheet.proofs.bytes.put_bytes.Goals as goal

mid-is : (s l : List ℕ) (at k : ℕ) → k ≡ length l → at + length l ≤ length s → put_mid at k s l ≡ sets s at l
mid-is s l at k e h = rw (e, drop-drop (length l) at s) (sym (sets-eq l s at h ∙ append_assoc (take at s) l (drop (at + length l) s)))

pub returns : goal.returns
returns c =
    let a = c.args in
    rw c.copy_from_slice.ensures.after (mid-is a.sheet.now a.bytes.now a.at _ (omega arith) c.requires)
