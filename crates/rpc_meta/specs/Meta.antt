-- RpcMeta: what the bytes of a meta say, and the one spelling that is written. By brpc's baidu_std document and the Protocol Buffers wire format; the faults are this project's own choice.
pub mod Answer
pub mod Reading
pub mod Spelling
pub mod Wire
pub use Rattle.rpc_meta.specs.Meta.Reading.{meta}
pub use Rattle.rpc_meta.specs.Meta.Spelling.{meta_bytes}
