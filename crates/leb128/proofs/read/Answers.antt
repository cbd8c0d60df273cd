use Rattle.std.proofs.Common.{◌≡◌, ◌+◌, ◌*◌, Ok, Err, arith}
use Rattle.std.proofs.lemmas.Result.{err_from_is_err_and}
use Rattle.leb128.specs.declared.Fault.TheVariants.{EndsEarly}
use Rattle.leb128.specs.Number.{read_at}
use Rattle.leb128.proofs.Faults.{reading, read_past, read_one, read_two, read_several}
use Rattle.leb128.proofs.read.Goals as goal

pub returns-in_default : goal.returns-in_default
returns-in_default c =
    let v : Err EndsEarly ≡ read_at c.args.bytes.now c.args.at = read_past c.args.bytes.now c.args.at c.in_default.ensures.lookup.3 in
    record { value = v; laws = reading c.args.bytes.now c.args.at _ (λ i. omega (arith, c.type_inv.bytes i)) v }

pub returns-then-byte-lt128 : goal.returns-then-byte-lt128
returns-then-byte-lt128 c =
    let found = c.in-Some.ensures.lookup.3 in
    let byte = found.1 0 in
    let one = read_one c.args.bytes.now c.args.at found.0 (omega arith) in
    let v : Ok (record { value = c.from.result; next = c.args.at + 1 }) ≡ read_at c.args.bytes.now c.args.at = cc (one, c.from.ensures, byte) in
    record { value = v; laws = reading c.args.bytes.now c.args.at _ (λ i. omega (arith, c.type_inv.bytes i)) v }

pub returns-in-Some-get : goal.returns-in-Some-get
returns-in-Some-get c =
    let byte = c.in-Some.ensures.lookup.3.1 0 in
    let found = c.in-Some-get.ensures.lookup.3 in
    let second = found.1 0 in
    let two = read_two c.args.bytes.now c.args.at found.0 (omega arith) (omega arith) (omega arith) in
    let v : Ok (record { value = c.from-in-Some-get.result + 128 * c.from-in-Some-get-2.result; next = c.args.at + 2 }) ≡ read_at c.args.bytes.now c.args.at =
    cc (two, c.from-in-Some-get.ensures, c.from-in-Some-get-2.ensures, byte, second) in
    record { value = v; laws = reading c.args.bytes.now c.args.at _ (λ i. omega (arith, c.type_inv.bytes i)) v }

pub returns-in_err-value-in_default-get : goal.returns-in_err-value-in_default-get
returns-in_err-value-in_default-get c =
    let p = err_from_is_err_and c.from_residual.result c.from_residual.ensures.1 in
    let found = c.in-Some.ensures.lookup.3 in
    let byte = found.1 0 in
    let v = read_several c.args.bytes.now c.args.at (Err c.in_err-value-in_default-get.field-0.0) found.0 (omega arith) c.in_err-value-in_default-get.ensures in
    rw (p.1, p.2) (record { value = v; laws = reading c.args.bytes.now c.args.at _ (λ i. omega (arith, c.type_inv.bytes i)) v })

value : (c : goal.In_ok-value-in_default-get) →
    Ok (record { value = c.in_ok-value-in_default-get.value; next = c.args.at + c.in_ok-value-in_default-get.length }) ≡ read_at c.args.bytes.now c.args.at
value c =
    let found = c.in-Some.ensures.lookup.3 in
    let byte = found.1 0 in
    read_several c.args.bytes.now c.args.at (Ok (c.in_ok-value-in_default-get.value, c.in_ok-value-in_default-get.length)) found.0 (omega arith) c.in_ok-value-in_default-get.ensures

pub overflow_add-result-in_default-get : goal.overflow_add-result-in_default-get
overflow_add-result-in_default-get c =
    let laws = reading c.args.bytes.now c.args.at _ (λ i. omega (arith, c.type_inv.bytes i)) (value c) in
    omega (arith, laws.canonical.2)

pub returns-in_ok-value-in_default-get : goal.returns-in_ok-value-in_default-get
returns-in_ok-value-in_default-get c =
    record { value = value c; laws = reading c.args.bytes.now c.args.at _ (λ i. omega (arith, c.type_inv.bytes i)) (value c) }
