-- Storing lists of bytes, one after the other.
use Rattle.std.proofs.Common.{◌≡◌, ℕ, List, [], ◌∷◌, ◌++◌, length, refl, sym, ◌∙◌, ap, subst, append_assoc}
use Rattle.std.proofs.Common.{◌+◌, ◌*◌, ◌<◌, ◌≤◌, suc, drop, get_or, add-one, arith}
use Rattle.std.proofs.Math.Seq.{drop-cons}
use Rattle.std.proofs.lemmas.List.{map-append, length-map}
use Rattle.std.proofs.lemmas.Simd.{map-map}
use Rattle.std.specs.Prelude.{false, map, Ok, Err}
use Rattle.std.specs.Option.{unwrap_or}
use Rattle.mem_num.specs.Rounded.{rounded_size}
use Rattle.mem_num.specs.declared.bounds.TheConstants.{LARGEST}
use Rattle.mem_num.specs.declared.rounding.Rounding.TheVariants.{Power}
use Rattle.mem_num.specs.declared.alloc_id.AllocId.{AllocId}
use Rattle.mem_num.specs.declared.buffer_refused.BufferRefused.{BufferRefused}
use Rattle.mem_num.specs.declared.buffer_refused.BufferRefused.TheVariants.{NoMemory}
use Rattle.mem_buf.specs.declared.arrow_buf.ArrowBuf.{ArrowBuf}
use Rattle.mem_buf.specs.TokenView.{TokenView, CanName, size_for}
use Rattle.mem_buf.specs.MemoryCall.{MemoryCall, Grant}
use Rattle.mem_buf.specs.Chain.{MemoryModel, MakesCall, MakesCalls, Runs}
use Rattle.mem_buf.specs.Callers.{CanPay, grants, GivesBack, IsStore}
use Rattle.mem_buf.specs.View.{bytes_in}
use Rattle.mem_buf.proofs.ChainLemmas.{MakesCalls-snoc, MakesCalls-only, MakesCalls-append}
use Rattle.mem_buf.proofs.PayLemmas.{CanPay-few, CanPay-rest, rounding_kept}
use Rattle.mem_buf.specs.Storing.{granted_of, IsRefusedStore}

-- what is left from a place on begins with what stands there
pub left-cons : {X Y : Type 0} (f : X → Y) (xs : List X) (i : ℕ) (x : X) → i < length xs → x ≡ get_or xs i x
    → map f (drop i xs) ≡ f x ∷ map f (drop (i + 1) xs)
left-cons f xs i x within there =
    ap (map f) (drop-cons xs i x within) ∙ ap (λ y. f y ∷ map f (drop (suc i) xs)) (sym there)
    ∙ ap (λ j. f x ∷ map f (drop j xs)) (sym (add-one i))

-- few enough byte lists can be stored, whatever their lengths
pub can_store_few : {X : Type 0} (bytes : X → List ℕ) (view : TokenView) (at : AllocId) (inputs : List X) → CanName view at
    → length inputs * LARGEST ≤ view.bytes → length inputs ≤ view.turns → CanPay view at (map length (map bytes inputs))
can_store_few bytes view at inputs named budget turns =
    let few : length (map length (map bytes inputs)) ≡ length inputs = length-map (map bytes inputs) length ∙ length-map inputs bytes in
    CanPay-few view at (map length (map bytes inputs)) named (omega arith) (omega arith)

module _ {Token H : Type 0} (memory : MemoryModel Token H) (at : AllocId) where
  -- the buffers hold the first of all byte lists, others are left, and the token can pay for those
  pub record HasStored (all left : List (List ℕ)) (bufs : List (ArrowBuf H)) (old new : Token) : Type 0 where
    pub calls : MakesCalls memory (grants at (map (granted_of memory.reference) bufs)) old new
    pub bytes : map (λ buf. bytes_in buf.view) bufs ++ left ≡ all
    pub pays : CanPay (memory.view new) at (map length left)
    pub same : (memory.view new).rounding at.0 ≡ (memory.view old).rounding at.0

  pub HasStored-none : (all : List (List ℕ)) (token : Token) → CanPay (memory.view token) at (map length all)
      → HasStored all all [] token token
  HasStored-none all token pays = record { calls = refl; bytes = refl; pays = pays; same = refl }

  -- a buffer with the next bytes was granted
  pub HasStored-one : (all left : List (List ℕ)) (bytes : List ℕ) (bufs : List (ArrowBuf H)) (buf : ArrowBuf H) (calls : List MemoryCall)
      (old middle new : Token) → HasStored all (bytes ∷ left) bufs old middle → bytes_in buf.view ≡ bytes
      → MakesCalls memory calls middle new → calls ≡ Grant at (length bytes) (Ok (memory.reference buf.hold)) ∷ []
      → HasStored all left (bufs ++ buf ∷ []) old new
  HasStored-one all left bytes bufs buf calls old middle new stored same_bytes made one =
      let call : MakesCall memory (Grant at (length bytes) (Ok (memory.reference buf.hold))) middle new =
      MakesCalls-only memory calls _ middle new one made in
      let named : MakesCall memory (Grant at (length (bytes_in buf.view)) (Ok (memory.reference buf.hold))) middle new =
      subst (λ list. MakesCall memory (Grant at (length list) (Ok (memory.reference buf.hold))) middle new) (sym same_bytes) call in
      let granted = map (granted_of memory.reference) bufs in
      record {
        calls = subst (λ list. MakesCalls memory list old new)
            (sym (ap (grants at) (map-append (granted_of memory.reference) bufs (buf ∷ []))
            ∙ map-append _ granted (granted_of memory.reference buf ∷ [])))
            (MakesCalls-snoc memory (grants at granted) _ old middle new stored.calls named);
        bytes = ap (λ front. front ++ left) (map-append _ bufs (buf ∷ []))
            ∙ append_assoc (map (λ b. bytes_in b.view) bufs) (bytes_in buf.view ∷ []) left
            ∙ ap (λ list. map (λ b. bytes_in b.view) bufs ++ (list ∷ left)) same_bytes ∙ stored.bytes;
        pays = CanPay-rest at (length bytes) (map length left) _ (memory.view middle) (memory.view new) stored.pays call.view;
        same = rounding_kept at (memory.view middle) (memory.view new) stored.pays.named call.view.names ∙ stored.same;
      }

  -- the next bytes were refused, and the buffers were given back
  pub HasStored-refused : (all left : List (List ℕ)) (bytes given : List ℕ) (bufs : List (ArrowBuf H)) (refused : BufferRefused)
      (old middle last new : Token) → given ≡ bytes → HasStored all (bytes ∷ left) bufs old middle
      → Runs memory (IsStore at (length given) (size_for (memory.view middle) at (length given)) (Err refused)) middle last
      → Runs memory (GivesBack (map (λ buf. memory.reference buf.hold) bufs)) last new
      → Runs memory (IsRefusedStore (memory.view old) at (map length all) refused) old new
  HasStored-refused all left bytes given bufs refused old middle last new same stored asked returned =
      let refusal : IsStore at (length bytes) (size_for (memory.view middle) at (length bytes)) (Err refused) asked.0 =
      subst (λ list. IsStore at (length list) (size_for (memory.view middle) at (length list)) (Err refused) asked.0) same asked.2 in
      let granted = map (granted_of memory.reference) bufs in (
        grants at granted ++ (asked.0 ++ returned.0),
        MakesCalls-append memory (grants at granted) (asked.0 ++ returned.0) old middle new stored.calls
            (MakesCalls-append memory asked.0 returned.0 middle last new asked.1 returned.1),
        record {
          granted = granted;
          left = length bytes ∷ map length left;
          asked = asked.0;
          returned = returned.0;
          requested = sym (ap (map length) stored.bytes) ∙ map-append length (map (λ buf. bytes_in buf.view) bufs) (bytes ∷ left)
              ∙ ap (λ front. front ++ map length (bytes ∷ left)) (map-map length (λ buf. bytes_in buf.view) bufs
              ∙ sym (map-map (λ one. one.0) (granted_of memory.reference) bufs));
          refusal = subst (λ policy. IsStore at (length bytes) (rounded_size (unwrap_or policy Power) (length bytes)) (Err refused) asked.0)
              stored.same refusal;
          given_back = subst (λ references. GivesBack references returned.0)
              (sym (map-map (λ one. one.1) (granted_of memory.reference) bufs))
              returned.2;
          order = refl;
        },
      )

  -- memory ran out before anything was stored
  pub HasStored-unasked : (requests : List ℕ) (token : Token)
      → Runs memory (IsRefusedStore (memory.view token) at requests NoMemory) token token
  HasStored-unasked [] token = (
    [],
    refl,
    record {
      granted = [];
      left = [];
      asked = [];
      returned = [];
      requested = refl;
      refusal = (refl, refl);
      given_back = ([], refl, refl);
      order = refl;
    },
  )
  HasStored-unasked (request ∷ left) token = (
    [],
    refl,
    record {
      granted = [];
      left = request ∷ left;
      asked = [];
      returned = [];
      requested = refl;
      refusal = (false, refl);
      given_back = ([], refl, refl);
      order = refl;
    },
  )
